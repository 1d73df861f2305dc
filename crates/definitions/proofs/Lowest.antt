-- The checks before pass 1 are made in the order of their numbers: the lowest that applies is given. They are laid out as a
-- list, and a condition of the inputs is the fault of one of them, by its place in that list.
-- Assumes nothing.
use mathlib.Core.Path.{◌≡◌, refl}
use mathlib.Core.Bool.{Bool, true, false, not, ◌&&◌, ◌||◌}
use mathlib.Core.List.{List, [], ◌∷◌}
use Prim.Native.Nat.{ℕ, zero, suc, ◌≤◌}
use lib.Dec.{eqb, ltb, leb}
use borrow.Author.Tests.{ne_eqb, lt-ltb, le-leb, leb-true}
use Rattle.definitions.specs.Inputs.{Job, Place, nowhere, place_at}
use Rattle.definitions.specs.Step.{Step, go, stop, unless, and_then}
use Rattle.definitions.specs.Ranges.{region_ok, within, used_tables, offset_ok, list_ok}
use Rattle.definitions.specs.Pass1.{State}
use Rattle.definitions.specs.Build.{geometry, height, root, start, refused, result, passes, build}
use Rattle.definitions.specs.Conditions.{BadInput, bad_region, bad_image, bad_output, bad_root, bad_offset, bad_list, bad_ranges, free_root}
use Rattle.definitions.proofs.Splits.{impossible}
use Rattle.definitions.proofs.Answers.{and_l, and_r}
use Rattle.definitions.proofs.Checks.{start_state, each_ok}

-- a fault, and the number and the place that it stops with
data Check : Type 0 where
  check : Bool → ℕ → Place → Check

abbrev chain : List Check → Step State → Step State
chain [] end = end
chain (check b n q ∷ cs) end = unless b n q (chain cs end)

-- those of `start`: `at` holds only if they are
abbrev checks : Job → List Check
checks j =
    check (not (region_ok (geometry j).limit j.region)) 1 nowhere
    ∷ check (not (eqb j.image_length j.region.used) || ltb j.output_length j.region.size) 4 nowhere
    ∷ check (not (within j.region j.cr3)) 6 nowhere
    ∷ check (not (offset_ok (geometry j).limit j.region j.table_offset)) 7 nowhere
    ∷ check (not (list_ok j.words)) 8 nowhere
    ∷ check (not (each_ok j)) 8 nowhere
    ∷ check (leb (used_tables j.region) (root j)) 9 (place_at 0 (height j))
    ∷ []

-- the fault of check k; the numbers up to check k are at most m
abbrev fault : ℕ → List Check → Bool
fault k [] = false
fault zero (check b n q ∷ cs) = b
fault (suc k) (check b n q ∷ cs) = fault k cs

abbrev up_to : ℕ → ℕ → List Check → Bool
up_to m k [] = true
up_to m zero (check b n q ∷ cs) = leb n m
up_to m (suc k) (check b n q ∷ cs) = leb n m && up_to m k cs

-- it stops with a number of at most m
abbrev Stops : ℕ → Step State → Type 0
Stops m (go s) = ⊥
Stops m (stop n q) = n ≤ m

chain_stops : (m k : ℕ) (cs : List Check) (end : Step State) → fault k cs ≡ true → up_to m k cs ≡ true → Stops m (chain cs end)
unfolding unless
chain_stops m k [] end e l = impossible (cc)
chain_stops m zero (check b n q ∷ cs) end e l = rw e (leb-true n m l)
chain_stops m (suc k) (check true n q ∷ cs) end e l = leb-true n m (and_l (leb n m) (up_to m k cs) l)
chain_stops m (suc k) (check false n q ∷ cs) end e l = chain_stops m k cs end e (and_r (leb n m) (up_to m k cs) l)

either : (b c : Bool) → c ≡ true → (b || c) ≡ true
either true c e = refl
either false c e = e

at : (j : Job) (m k : ℕ) → fault k (checks j) ≡ true → up_to m k (checks j) ≡ true → Stops m (start j)
unfolding start
at j m k e l = chain_stops m k (checks j) (go (start_state j)) e l

start_stops : (j : Job) (n : ℕ) (q : Place) → BadInput j n q → Stops n (start j)
start_stops j n q (bad_region e) = at j n 0 (rw e refl) refl
start_stops j n q (bad_image e) = at j n 1 (rw (ne_eqb j.image_length j.region.used e) refl) refl
start_stops j n q (bad_output e) = at j n 1 (either (not (eqb j.image_length j.region.used)) _ (lt-ltb _ _ e)) refl
start_stops j n q (bad_root e) = at j n 2 (rw e refl) refl
start_stops j n q (bad_offset e) = at j n 3 (rw e refl) refl
start_stops j n q (bad_list e) = at j n 4 (rw e refl) refl
start_stops j n q (bad_ranges e) = at j n 5 (rw e refl) refl
start_stops j n q (free_root e) = at j n 6 (le-leb _ _ e) refl

pub lowest_given : (j : Job) (n : ℕ) (q : Place) → BadInput j n q → (build j).report.number ≤ n
unfolding build result and_then refused
lowest_given j n q b = turn (start j) (start_stops j n q b)
  where
    turn : (o : Step State) → Stops n o → (result (and_then o (λ s. passes j s))).report.number ≤ n
    turn (go s) h = absurd h
    turn (stop m r) h = h
