-- Laws of a leaf more: put at its place it makes the list of `remember`, the addresses ascend, and `Keeps` follows by cases.
-- Assumes nothing.
use Prim.Native.Nat.{ℕ, zero, suc, ◌+◌, ◌/◌, ◌-◌, ◌≤◌, ◌<◌}
use mathlib.Core.Path.{◌≡◌, refl, sym, ap, ap₂, subst, ◌∙◌}
use mathlib.Core.Bool.{Bool, true, false}
use mathlib.Core.Logic.{⊎_elim}
use mathlib.Core.List.{List, ◌∷◌}
use native.Mathlib.Nat.{add-zero, zero-add}
use native.Mathlib.Omega.{arith}
use borrow.Author.Tests.{lt-ltb, le-ltb, le-leb, lt-leb}
use lib.Dec.{leb}
use lib.ListN.{length}
use Rattle.definitions.proofs.Numbers.{suc_across}
use Rattle.definitions.specs.Pass1.{taken, remember}
use Rattle.definitions.specs.Step.{go, unless}
use Rattle.definitions.specs.declared.Moved.{Moved}
use Rattle.moved.specs.View.{leaf_at, nth, leaf_of, size, gather, leaves_of, Held, Room, Gap, Put, GapMoved, Remembered, Keeps}
use Rattle.moved.specs.declared.Store.{Store}
use Rattle.definitions.specs.declared.refusals.Error.{Error}
use Rattle.std.specs.Prelude.{Ok, Err}
use Rattle.moved.proofs.Slots.{split, slot_before, slot_after}
use Rattle.moved.proofs.Leaves.{leaves_length}

-- ---- x comes in at place k of n: g before, h after

-- a leaf and the rest
joined : {x y : Moved} {xs ys : List Moved} → x ≡ y → xs ≡ ys → ◌≡◌ {A = List Moved} (x ∷ xs) (y ∷ ys)
joined p q = ap₂ (λ (z : Moved) (zs : List Moved). z ∷ zs) p q

remember_one : (n k : ℕ) (g h : ℕ → Moved) (i : ℕ) (x : Moved) → k ≤ n
    → ((j : ℕ) → i ≤ j → j < i + k → (g j).address < x.address)
    → ((j : ℕ) → i + k ≤ j → j < i + n → x.address < (g j).address)
    → ((j : ℕ) → i ≤ j → j < i + k → h j ≡ g j)
    → h (i + k) ≡ x
    → ((j : ℕ) → i + k ≤ j → j < i + n → h (suc j) ≡ g j)
    → gather (suc n) h i ≡ remember x (gather n g i)
unfolding gather remember
remember_one zero zero g h i x l below above before here after = joined (ap h (sym (add-zero i)) ∙ here) refl
remember_one zero (suc k) g h i x l below above before here after = absurd (omega arith)
remember_one (suc n) zero g h i x l below above before here after =
    let rest = shift n (suc i) (λ j p q. after j (omega arith) (omega arith)) in
    rw (lt-ltb x.address (g i).address (above i (omega arith) (omega arith)))
    (joined (ap h (sym (add-zero i)) ∙ here) (joined (after i (omega arith) (omega arith)) rest))
  where
    shift : (m o : ℕ) → ((j : ℕ) → o ≤ j → j < o + m → h (suc j) ≡ g j) → gather m h (suc o) ≡ gather m g o
    shift zero o e = refl
    shift (suc m) o e = joined (e o (omega arith) (omega arith)) (shift m (suc o) (λ j p q. e j (omega arith) (omega arith)))
remember_one (suc n) (suc k) g h i x l below above before here after =
    rw (le-ltb x.address (g i).address (omega (arith, below i (omega arith) (omega arith))))
    (joined (before i (omega arith) (omega arith))
    (remember_one n k g h (suc i) x (omega arith)
    (λ j p q. below j (omega arith) (omega arith))
    (λ j p q. above j (omega arith) (omega arith))
    (λ j p q. before j (omega arith) (omega arith))
    (ap h (suc_across i k) ∙ here)
    (λ j p q. after j (omega arith) (omega arith))))

module _ (n k : ℕ) (g h : ℕ → Moved) (x : Moved) (kn : k ≤ n)
    (below : (j : ℕ) → j < k → (g j).address < x.address)
    (above : (j : ℕ) → k ≤ j → j < n → x.address < (g j).address)
    (before : (j : ℕ) → j < k → h j ≡ g j) (here : h k ≡ x)
    (after : (j : ℕ) → k ≤ j → j < n → h (suc j) ≡ g j) where
  more : gather (suc n) h 0 ≡ remember x (gather n g 0)
  more =
      remember_one n k g h 0 x kn (λ j l m. below j (omega arith)) (λ j l m. above j (omega arith) (omega arith))
      (λ j l m. before j (omega arith)) (ap h (zero-add k) ∙ here) (λ j l m. after j (omega arith) (omega arith))

  low : (j : ℕ) → j < k → (h j).address ≡ (g j).address
  low j l = ap (λ (m : Moved). m.address) (before j l)

  mid : (j : ℕ) → j ≤ k → k ≤ j → (h j).address ≡ x.address
  mid j l m = let e : j ≡ k = omega arith in ap (λ (m : Moved). m.address) (ap h e ∙ here)

  high : (j : ℕ) → k < j → j < suc n → (h j).address ≡ (g (j - 1)).address
  high j l m =
      let e : j ≡ suc (j - 1) = omega arith in
      ap (λ (m : Moved). m.address) (ap h e ∙ after (j - 1) (omega arith) (omega arith))

  ascends : ((i j : ℕ) → i < j → j < n → (g i).address < (g j).address) → (i j : ℕ) → i < j → j < suc n → (h i).address < (h j).address
  ascends asc i j l m = ⊎_elim one (λ u. ⊎_elim (λ v. three v) (λ v. two u v) (split k j)) (split j k)
    where
      one : j < k → (h i).address < (h j).address
      one u = omega (arith, low i (omega arith), low j u, asc i j l (omega arith))

      two : k ≤ j → j ≤ k → (h i).address < (h j).address
      two u v = omega (arith, low i (omega arith), mid j v u, below i (omega arith))

      three : k < j → (h i).address < (h j).address
      three u = ⊎_elim left (λ v. ⊎_elim (λ w. right w) (λ w. same v w) (split k i)) (split i k)
        where
          left : i < k → (h i).address < (h j).address
          left v = omega (arith, low i v, high j u m, asc i (j - 1) (omega arith) (omega arith))

          same : k ≤ i → i ≤ k → (h i).address < (h j).address
          same v w = omega (arith, mid i w v, high j u m, above (j - 1) (omega arith) (omega arith))

          right : k < i → (h i).address < (h j).address
          right v = omega (arith, high i v (omega arith), high j u m, asc (i - 1) (j - 1) (omega arith) (omega arith))

-- ---- a leaf is put: xs, ys once the gap has moved, zs once the slot is written

module _ {xs ys zs : List ℕ} {s t : Store} {x : Moved} {at : ℕ} (held : Held xs s) (room : Room xs s)
    (place : Gap xs s x.address at) (moved : GapMoved xs s at ys t) (put : Put ys t.front x zs) where
  abbrev f : ℕ
  f = t.front

  abbrev b : ℕ
  b = t.back

  gap : Gap xs s x.address f
  gap = subst (Gap xs s x.address) (sym moved.front) place

  long : length zs ≡ length xs
  long = put.long ∙ moved.long

  cap : length zs / 3 ≡ length xs / 3
  cap = ap (λ (k : ℕ). k / 3) long

  put_before : (j : ℕ) → j < f → nth zs (f + 1) b j ≡ leaf_of xs s j
  put_before j l =
      ap (leaf_at zs) (slot_before (length zs / 3) (f + 1) b j (omega arith))
      ∙ put.others j (λ e. omega arith)
      ∙ sym (ap (leaf_at ys) (slot_before (length xs / 3) f b j l))
      ∙ moved.each j

  put_here : nth zs (f + 1) b f ≡ x
  put_here = ap (leaf_at zs) (slot_before (length zs / 3) (f + 1) b f (omega arith)) ∙ put.there

  put_after : (j : ℕ) → f ≤ j → j < size s → nth zs (f + 1) b (suc j) ≡ leaf_of xs s j
  put_after j l m =
      let e : length zs / 3 - b + (suc j - (f + 1)) ≡ length xs / 3 - b + (j - f) = omega (arith, cap) in
      ap (leaf_at zs) (slot_after (length zs / 3) (f + 1) b (suc j) (omega arith) ∙ e)
      ∙ put.others (length xs / 3 - b + (j - f)) (λ u. omega arith)
      ∙ sym (ap (leaf_at ys) (slot_after (length xs / 3) f b j l))
      ∙ moved.each j

  sum : f + 1 + b ≡ suc (size s)
  sum = omega (arith, moved.count)

  put_leaves : gather (f + 1 + b) (λ j. nth zs (f + 1) b j) 0 ≡ remember x (leaves_of xs s)
  put_leaves =
      ap (λ (k : ℕ). gather k (λ j. nth zs (f + 1) b j) 0) sum
      ∙ more (size s) f (λ j. leaf_of xs s j) (λ j. nth zs (f + 1) b j) x gap.high gap.below gap.above put_before put_here put_after

  put_ascending : (i j : ℕ) → i < j → j < f + 1 + b → (nth zs (f + 1) b i).address < (nth zs (f + 1) b j).address
  put_ascending i j l m =
      ascends (size s) f (λ j. leaf_of xs s j) (λ j. nth zs (f + 1) b j) x gap.high gap.below gap.above put_before put_here put_after
      held.ascending i j l (omega (arith, sum))

  pub put_remembered : Remembered xs s x zs (record { front = t.front + 1; back = t.back })
  put_remembered = record {
    leaves = put_leaves;
    held = record { fits = omega (arith, cap, sum); ascending = put_ascending };
    long = long;
    more = omega (arith, sum);
  }

-- ---- remembering, from what `find`, the test of the room and `put` give

-- the test of the room, by the store
tested : (xs : List ℕ) (s : Store) {t : Bool} → leb (length xs / 3) (size s) ≡ t → leb (length xs / 3) (length (leaves_of xs s)) ≡ t
tested xs s e = ap (leb (length xs / 3)) (leaves_length xs s) ∙ e

module _ {xs : List ℕ} {s : Store} {x : Moved} where
  pub keeps_clash : taken x.address (leaves_of xs s) ≡ true → Keeps xs s x xs (Err Error.SameAddress)
  unfolding unless
  keeps_clash h = record { step = λ p. rw h; kept = refl; long = refl }

  pub keeps_full : taken x.address (leaves_of xs s) ≡ false → length xs / 3 ≤ size s → Keeps xs s x xs (Err Error.NoRoom)
  unfolding unless
  keeps_full h k = record { step = λ p. rw (h, tested xs s (le-leb (length xs / 3) (size s) k)); kept = refl; long = refl }

  pub keeps_in : {ys : List ℕ} {t : Store} → taken x.address (leaves_of xs s) ≡ false → Room xs s → Remembered xs s x ys t → Keeps xs s x ys (Ok t)
  unfolding unless
  keeps_in h k r =
      record { step = λ p. rw (h, tested xs s (lt-leb (length xs / 3) (size s) k)) (ap go r.leaves); kept = r.held; long = r.long }
