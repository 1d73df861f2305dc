-- A refusal of pass 1 is the first in walk order and one of pass 2 the first in the way, and these are what is reported (in_order). Builds on
-- Pass1.First, Pass1.OneFirst, Both.FirstPlace, Both.OnePlace and Exact. Assumes nothing.
use Prim.Native.Nat.{ℕ, ◌+◌, ◌*◌, ◌<◌}
use mathlib.Core.Path.{◌≡◌, refl}
use mathlib.Core.Logic.{◌⊎◌, inl, inr, ⊎_elim}
use native.Mathlib.Omega.{arith}
use Rattle.definitions.specs.Geometry.{span}
use Rattle.definitions.specs.Inputs.{Job, Built}
use Rattle.definitions.specs.declared.Place.{Place}
use Rattle.definitions.specs.Step.{Step, go, stop, and_then}
use Rattle.definitions.specs.Pass1.{Plan, State}
use Rattle.definitions.specs.Build.{height, second_pass, start, accepted, refused as refused_build, result, passes, build}
use Rattle.definitions.specs.Demand.{Proper}
use Rattle.definitions.specs.Conditions.{BadInput, bad_region, bad_image, bad_output, bad_root, bad_offset, bad_list, bad_ranges, free_root, None}
use Rattle.definitions.specs.Conditions.{BadEntry, in_tail, into_moved, not_whole, too_far}
use Rattle.definitions.specs.Conditions.{BadTables}
use Rattle.definitions.specs.Order.{refused, to_root, to_same, taken, full, FirstBad, FirstInWay, InOrder}
use Rattle.definitions.proofs.Conditions.{bad_entry_number}
use Rattle.definitions.proofs.Order.{in_way_bad}
use Rattle.definitions.proofs.Checks.{Good, Starts, start_says, no_bad_input}
use Rattle.demands.proofs.Pass1.Passing.{Passed, pass1}
use Rattle.demands.proofs.Pass1.Tables.{Halted, pass1_halts}
use Rattle.demands.proofs.Pass1.Result.{pass1_ok}
use Rattle.demands.proofs.Pass1.First.{Met, Wrong, first_halt, none_wrong}
use Rattle.demands.proofs.Pass1.OneFirst.{first_one}
use Rattle.demands.proofs.Both.Sound.{passing, sound}
use Rattle.demands.proofs.Both.Numbers.{entry_bad, places_number}
use Rattle.demands.proofs.Both.Outcome.{Ran, Failed, first_is, ran, accepted_number}
use Rattle.demands.proofs.Both.FirstPlace.{first_place}
use Rattle.demands.proofs.Both.OnePlace.{first_place_one}
use Rattle.demands.proofs.Exact.{exact}

-- how a build goes, by the stage at which it is refused: at the inputs, in pass 1, or after it
abbrev Staged : Job → Built → Type 0
Staged j b =
    let n = b.report.number in
    let q = b.report.place in
    BadInput j n q ⊎ (Good j × FirstBad j n q) ⊎ (None (BadTables j) × None (FirstBad j))

abbrev Sharp : Job → ℕ → Place → Type 0
Sharp j n q = BadInput j n q ⊎ (None (BadInput j) × FirstBad j n q) ⊎ (None (BadInput j) × None (BadTables j) × FirstInWay j n q)

staged : (j : Job) → Proper j → Staged j (build j)
unfolding build result and_then passes refused_build
staged j proper = begin (start j) (start_says j)
  where
    second : (good : Good j) (o : Step State) → Passed (passing j) o → Halted (passing j) o
        → Staged j (result (and_then o (λ s. and_then (second_pass j s) (λ f. go (accepted s f)))))
    second good (stop n q) z h = inr (inl (good, first_halt (sound j proper good) n q h))
    second good (go s) z h = inr (inr (z.clean, none_wrong (sound j proper good) h.1))

    begin : (o : Step State) → Starts j o → Staged j (result (and_then o (λ s. passes j s)))
    begin (stop n q) b = inl b
    begin (go s) c =
        let S = sound j proper c.0 in
        rw (c.1, first_is j) (second c.0 (pass1 (passing j)) (pass1_ok S) (pass1_halts S))

given : (j : Job) → Proper j → ¬ ((build j).report.number ≡ 0) → Sharp j (build j).report.number (build j).report.place
given j proper no_zero =
    ⊎_elim
    (λ (g : Ran j (build j)). absurd (no_zero (accepted_number j g)))
    (λ (f : Failed j (build j)). ⊎_elim inl
    (⊎_elim
    (λ b. ⊎_elim inl (⊎_elim (λ f. inr (inl (no_bad_input j b.0, f.1))) (λ z. absurd (z.0 _ _ b.1))) (staged j proper))
    (λ h. inr (inr (no_bad_input j h.0, h.2.clean, first_place j proper h.0 h.2 h.3))))
    f.1)
    (ran j proper)

-- and of pass 2 there is one first
one_place : (j : Job) → Proper j → (n : ℕ) (q : Place) → None (BadInput j) → None (BadTables j) → FirstInWay j n q
    → ((build j).report.number ≡ n) × ((build j).report.place ≡ q)
one_place j proper n q no_input no_table f =
    ⊎_elim
    (λ (g : Ran j (build j)). absurd ((exact j proper).no_reason (accepted_number j g) n q (inr (inr (in_way_bad f.in_way)))))
    (λ (k : Failed j (build j)). ⊎_elim
    (λ b. absurd (no_input _ _ b))
    (⊎_elim
    (λ b. absurd (no_table _ _ b.1))
    (λ h. first_place_one j proper h.0 h.2 _ n _ q (first_place j proper h.0 h.2 h.3) f))
    k.1)
    (ran j proper)

input_nine : (j : Job) (n : ℕ) (q : Place) → BadInput j n q → (n < 9) ⊎ ((n ≡ 9) × (q.level ≡ height j))
input_nine j n q (bad_region e) = inl (omega arith)
input_nine j n q (bad_image e) = inl (omega arith)
input_nine j n q (bad_output e) = inl (omega arith)
input_nine j n q (bad_root e) = inl (omega arith)
input_nine j n q (bad_offset e) = inl (omega arith)
input_nine j n q (bad_list e) = inl (omega arith)
input_nine j n q (bad_ranges e) = inl (omega arith)
input_nine j n q (free_root e) = inr (refl, refl)

input_low : (j : Job) (n : ℕ) (q : Place) → BadInput j n q → n < 16
input_low j n q b = ⊎_elim (λ w. omega arith) (λ w. omega (arith, w.0)) (input_nine j n q b)

bad_place : {p : Plan} {l a e n : ℕ} {q : Place} → BadEntry p l a e n q → (q.address ≡ a) × (q.level ≡ l)
bad_place (in_tail ek h) = (refl, refl)
bad_place (into_moved ek w) = (refl, refl)
bad_place (not_whole ek ed ne) = (refl, refl)
bad_place (too_far ek ed eo h) = (refl, refl)

-- the place is that of the entry
place_of : (j : Job) (n : ℕ) (q : Place) (e : Met (passing j)) → Wrong (passing j) e n q → (q.address ≡ (e.p * 512 + e.i) * span e.l) × (q.level ≡ e.l)
place_of j n q e (refused w) = bad_place (entry_bad j e.t e.l e.p e.i n q w)
place_of j n q e (to_root w z) = rw z (refl, refl)
place_of j n q e (to_same w b r wb z) = rw z (refl, refl)
place_of j n q e (taken w b r wb ea z) = rw z (refl, refl)
place_of j n q e (full w free xs d ms h z) = rw z (refl, refl)

wrong_low : (j : Job) (n : ℕ) (q : Place) (e : Met (passing j)) → Wrong (passing j) e n q → n < 16
wrong_low j n q e (refused w) = (bad_entry_number (entry_bad j e.t e.l e.p e.i n q w)).1
wrong_low j n q e (to_root w z) = omega arith
wrong_low j n q e (to_same w b r wb z) = omega arith
wrong_low j n q e (taken w b r wb ea z) = omega arith
wrong_low j n q e (full w free xs d ms h z) = omega arith

pub in_order : (j : Job) → Proper j → InOrder j
in_order j proper =
    record {
      given = given j proper;
      numbers = λ lo hi not_root.
          ⊎_elim
          (λ b. absurd (⊎_elim (λ w. omega arith) (λ w. omega (arith, not_root w.0)) (input_nine j _ _ b)))
          (⊎_elim (λ b. b.1) (λ b. absurd (omega (arith, places_number j _ _ (in_way_bad b.2.in_way)))))
          (given j proper (omega arith));
      place_numbers = λ lo.
          ⊎_elim
          (λ b. absurd (omega (arith, input_low j _ _ b)))
          (⊎_elim (λ b. absurd (omega (arith, wrong_low j _ _ b.1.entry b.1.wrong))) (λ b. b.2))
          (given j proper (omega arith));
      place = λ n q f. place_of j n q f.entry f.wrong;
      only = λ n q none f.
          ⊎_elim (λ b. absurd (none _ _ b))
          (⊎_elim (λ g. first_one (passing j) _ n _ q g.1 f) (λ z. absurd (z.1 n q f))) (staged j proper);
      only_place = one_place j proper;
    }
