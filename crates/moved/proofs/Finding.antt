-- Laws of `find`: a search in one part of a store, before the gap or after it, tells of all its leaves.
-- Assumes nothing.
use Prim.Native.Nat.{ℕ, ◌+◌, ◌/◌, ◌-◌, ◌≤◌, ◌<◌}
use mathlib.Core.Path.{◌≡◌, refl, ap, ◌∙◌}
use mathlib.Core.Bool.{true}
use mathlib.Core.Logic.{⊎_elim}
use mathlib.Core.List.{List}
use native.Mathlib.Omega.{arith}
use lib.ListN.{length}
use Rattle.definitions.specs.Pass1.{taken}
use Rattle.moved.specs.View.{address_at, leaf_of, size, leaves_of, Sorted, Between, Found, Sought, Finds, Held, Gap}
use Rattle.moved.specs.declared.Store.{Store}
use Rattle.std.specs.Prelude.{Option, Some, None}
use Rattle.moved.proofs.Slots.{split, slot_before, slot_after}
use Rattle.moved.proofs.Leaves.{taken_at, taken_nowhere}

-- the first slot after the gap
abbrev pub start : List ℕ → Store → ℕ
start xs s = length xs / 3 - s.back

-- every leaf before the gap is lower
abbrev pub Low : List ℕ → Store → ℕ → Type 0
Low xs s key = (j : ℕ) → j < s.front → (leaf_of xs s j).address < key

module _ {xs : List ℕ} {s : Store} (held : Held xs s) where
  in_front : (j : ℕ) → j < s.front → (leaf_of xs s j).address ≡ address_at xs j
  in_front j l = ap (address_at xs) (slot_before (length xs / 3) s.front s.back j l)

  in_back : (j k : ℕ) → s.front ≤ j → start xs s + (j - s.front) ≡ k → (leaf_of xs s j).address ≡ address_at xs k
  in_back j k l e = ap (address_at xs) (slot_after (length xs / 3) s.front s.back j l ∙ e)

  pub sorted_front : Sorted xs 0 s.front
  sorted_front = record { each = λ i j l m n. omega (arith, held.ascending i j m (omega arith), in_front i (omega arith), in_front j n) }

  -- the leaf of a slot after the gap
  abbrev back : ℕ → ℕ
  back k = s.front + (k - start xs s)

  back_at : (k : ℕ) → start xs s ≤ k → (leaf_of xs s (back k)).address ≡ address_at xs k
  back_at k l = in_back (back k) k (omega arith) (omega arith)

  pub sorted_back : Sorted xs (start xs s) (length xs / 3)
  sorted_back = record {
    each = λ i j l m n.
        omega (arith, held.ascending (back i) (back j) (omega arith) (omega arith), back_at i l, back_at j (omega arith));
  }

  module _ {key : ℕ} where
    found_front : Found xs 0 s.front key → taken key (leaves_of xs s) ≡ true
    found_front f = taken_at xs s key f.at (omega (arith, f.high)) (in_front f.at f.high ∙ f.same)

    pub found_back : Found xs (start xs s) (length xs / 3) key → taken key (leaves_of xs s) ≡ true
    found_back f = taken_at xs s key (back f.at) (omega (arith, f.low, f.high)) (back_at f.at f.low ∙ f.same)

    pub finds_free : {i : ℕ} → Gap xs s key i → Finds xs s key (Some i)
    finds_free {i} g = (taken_nowhere xs s key other, g)
      where
        other : (j : ℕ) → j < size s → (leaf_of xs s j).address ≡ key → ⊥
        other j l e = ⊎_elim (λ u. omega (arith, g.below j u)) (λ u. omega (arith, g.above j u l)) (split j i)

    -- ---- the last leaf before the gap is not lower

    gap_front : {i : ℕ} → Between xs 0 s.front key i → 0 < s.front → key ≤ address_at xs (s.front - 1) → Gap xs s key i
    gap_front r p q = record {
      high = omega (arith, r.high);
      below = λ j l. omega (arith, in_front j (omega (arith, r.high)), r.below j (omega arith) l);
      above = λ j l m. ⊎_elim (λ u. omega (arith, in_front j u, r.above j l u))
          (λ u. omega (arith, held.ascending (s.front - 1) j (omega arith) m, in_front (s.front - 1) (omega arith))) (split j s.front);
    }

    pub finds_front : (r : Option ℕ) → 0 < s.front → key ≤ address_at xs (s.front - 1) → Sought xs 0 s.front key r → Finds xs s key r
    finds_front (Some i) p q h = finds_free (gap_front h p q)
    finds_front None p q h = found_front h

    -- ---- every leaf before the gap is lower

    pub low_none : s.front ≤ 0 → Low xs s key
    low_none h j l = absurd none
      where
        none : ⊥
        none = omega arith

    pub low_last : address_at xs (s.front - 1) < key → Low xs s key
    low_last h j l = ⊎_elim under (λ u. last u) (split j (s.front - 1))
      where
        under : j < s.front - 1 → (leaf_of xs s j).address < key
        under u = omega (arith, held.ascending j (s.front - 1) u (omega arith), in_front (s.front - 1) (omega arith))

        last : s.front - 1 ≤ j → (leaf_of xs s j).address < key
        last u = let e : j ≡ s.front - 1 = omega arith in omega (arith, in_front j l, ap (address_at xs) e)

    module _ (low : Low xs s key) where
      pub gap_none : s.back ≡ 0 → Gap xs s key s.front
      gap_none h = record { high = omega arith; below = low; above = λ j l m. absurd (none j l m) }
        where
          none : (j : ℕ) → s.front ≤ j → j < size s → ⊥
          none j l m = omega arith

      pub gap_between : key < address_at xs (start xs s) → Gap xs s key s.front
      gap_between h = record { high = omega arith; below = low; above = λ j l m. ⊎_elim (λ u. later j u m) (λ u. first j l u) (split s.front j) }
        where
          first : (j : ℕ) → s.front ≤ j → j ≤ s.front → key < (leaf_of xs s j).address
          first j l u = omega (arith, in_back j (start xs s) l (omega arith))

          later : (j : ℕ) → s.front < j → j < size s → key < (leaf_of xs s j).address
          later j u m = omega (arith, first s.front (omega arith) (omega arith), held.ascending s.front j u m)

      pub gap_back : {i : ℕ} → Between xs (start xs s) (length xs / 3) key i → Gap xs s key (i - start xs s + s.front)
      gap_back {i} r = record {
        high = omega (arith, r.low, r.high);
        below = λ j u. ⊎_elim (λ v. low j v) (λ v. under j u v) (split j s.front);
        above = λ j u v. over j u v;
      }
        where
          under : (j : ℕ) → j < i - start xs s + s.front → s.front ≤ j → (leaf_of xs s j).address < key
          under j u v =
              let k = start xs s + (j - s.front) in
              omega (arith, in_back j k v refl, r.below k (omega arith) (omega (arith, r.low)))

          over : (j : ℕ) → i - start xs s + s.front ≤ j → j < size s → key < (leaf_of xs s j).address
          over j u v =
              let k = start xs s + (j - s.front) in
              omega (arith, in_back j k (omega arith) refl, r.above k (omega (arith, r.low)) (omega arith))
