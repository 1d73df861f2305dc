-- What std's binary search over the slots from a to b tells of their addresses.
-- Assumes nothing.
use Rattle.std.proofs.Common.{◌≡◌, ℕ, zero, suc, ◌+◌, ◌*◌, ◌-◌, ◌/◌, ◌<◌, ◌≤◌, List, [], ◌∷◌, length, get_or, take, drop, Ok, Err, refl, sym, ap, ◌∙◌, arith}
use Rattle.std.specs.Simd.{first_chunks}
use Rattle.std.specs.List.Sorted.{IsBinarySearchResult, IsNonDecreasingBy}
use Rattle.std.specs.Ordering.{nat_cmp, ordering_index}
use Rattle.std.proofs.lemmas.Cmp.{ranked}
use Rattle.std.proofs.lemmas.List.{get_or-take, get_or-drop}
use Rattle.std.proofs.lemmas.List.Sorted.{IsNonDecreasingBy-from_default}
use Rattle.std.proofs.lemmas.Bool.Decides.{nat_tests}
use Rattle.moved.specs.View.{address_at, Sorted, Between, Found}
use Rattle.moved.proofs.Slots.{split}
use mathlib.Core.Logic.{⊎_elim}

-- a slot begins with its address
first_word : (n i : ℕ) (xs : List ℕ) → i < n → get_or (get_or (first_chunks 3 n xs) i []) 0 0 ≡ address_at xs i
first_word zero i xs h = absurd (omega arith)
first_word (suc n) zero [] h = refl
first_word (suc n) zero (x ∷ xs) h = refl
first_word (suc n) (suc i) xs h =
    let e : 3 + i * 3 ≡ suc i * 3 = omega arith in
    first_word n i (drop 3 xs) (omega arith) ∙ get_or-drop 3 xs (i * 3) 0 ∙ ap (λ (w : ℕ). get_or xs w 0) e

module _ (xs : List ℕ) (a b key : ℕ) (fits : b * 3 ≤ length xs) (order : a ≤ b) (sorted : Sorted xs a b) (ts : List (List ℕ))
    (slots : ts ≡ first_chunks 3 (length xs / 3) xs) where
  abbrev cs : List (List ℕ)
  cs = take (b - a) (drop a ts)

  abbrev key_of : ℕ → ℕ
  key_of k = get_or (get_or cs k []) 0 0

  at : (k : ℕ) → k < b - a → key_of k ≡ address_at xs (a + k)
  at k l =
      ap (λ (c : List ℕ). get_or c 0 0)
      (get_or-take (b - a) (drop a ts) k [] l ∙ get_or-drop a ts k [] ∙ ap (λ (us : List (List ℕ)). get_or us (a + k) []) slots)
      ∙ first_word (length xs / 3) (a + k) xs (omega arith)

  rise : length cs ≡ b - a → IsNonDecreasingBy (λ (c : List ℕ). ordering_index (nat_cmp (get_or c 0 0) key)) cs
  rise long =
      IsNonDecreasingBy-from_default (λ (c : List ℕ). ordering_index (nat_cmp (get_or c 0 0) key)) cs [] (λ i j l m. upward i j l m)
    where
      upward : (i j : ℕ) → i ≤ j → j < length cs → ordering_index (nat_cmp (key_of i) key) ≤ ordering_index (nat_cmp (key_of j) key)
      upward i j l m =
          let keys_rise : key_of i ≤ key_of j =
          ⊎_elim (λ u. omega (arith, at i (omega arith), at j (omega arith), sorted.each (a + i) (a + j) (omega arith) (omega arith) (omega arith)))
          (λ u. let same : i ≡ j = omega arith in omega (arith, ap key_of same)) (split i j) in
          grind (arith, nat_tests)

  module _ (long : length cs ≡ b - a) where
    pub found : (i : ℕ) → i < length cs → IsBinarySearchResult (λ (c : List ℕ). nat_cmp (get_or c 0 0) key) cs (Ok i) → Found xs a b key
    found i l equal = record {
      at = a + i;
      low = omega arith;
      high = omega arith;
      same = sym (at i (omega arith)) ∙ ranked (key_of i) key _ (sym (equal []));
    }

    pub between : (i : ℕ) → i ≤ length cs → IsBinarySearchResult (λ (c : List ℕ). nat_cmp (get_or c 0 0) key) cs (Err i) → Between xs a b key (a + i)
    between i l parted = record {
      low = omega arith;
      high = omega arith;
      below = λ k u v. lower k (k - a) (omega arith) u v;
      above = λ k u v. higher k (k - a) (omega arith) u v;
    }
      where
        lower : (k j : ℕ) → a + j ≡ k → a ≤ k → k < a + i → address_at xs k < key
        lower k j e u v =
            let less : key_of j < key = ranked (key_of j) key _ (sym ((parted (rise long)).0 j [] (omega arith) (omega arith))) in
            omega (arith, less, at j (omega arith), ap (address_at xs) e)

        higher : (k j : ℕ) → a + j ≡ k → a + i ≤ k → k < b → key < address_at xs k
        higher k j e u v =
            let more : key < key_of j = ranked (key_of j) key _ (sym ((parted (rise long)).1 j [] (omega arith) (omega arith))) in
            omega (arith, more, at j (omega arith), ap (address_at xs) e)
