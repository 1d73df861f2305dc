-- Changes by their place in a list: those of words in a row are exactly those that differ, in order (in_range, found, ascending), and
-- their words are quadruples, with zeros after them (quadruple_at, zeros_after).
-- Assumes nothing.
use mathlib.Core.Path.{◌≡◌, refl, ap, ◌∙◌}
use mathlib.Core.List.{List, [], ◌∷◌, ◌++◌}
use Prim.Native.Nat.{ℕ, zero, suc, ◌+◌, ◌-◌, ◌*◌, ◌≤◌, ◌<◌}
use native.Mathlib.Nat.{suc-add}
use native.Mathlib.Omega.{arith}
use lib.ListN.{length, get_or, replicate}
use lib.Seq.{get_or-append-add}
use Rattle.definitions.specs.Words.{Mem, slot}
use Rattle.definitions.specs.Compare.{Change, change_at, changes_from, change_words, quadruple}
use Rattle.definitions.proofs.Splits.{on_eq}
use Rattle.definitions.proofs.Words.{zero_at}
use Rattle.definitions.proofs.Compare.{no_words, first_same, first_differs, words_length}

-- ---- lists of changes, by place

-- what stands past the end of a list
abbrev no_change : Change
no_change = record { table = 0; entry = 0; before = 0; after = 0 }

-- change j of a list
abbrev pub nth : List Change → ℕ → Change
nth cs j = get_or cs j no_change

-- the number of the word that changed
abbrev pub slot_of : Change → ℕ
slot_of c = slot c.table c.entry

abbrev pub Every : (Change → Type 0) → List Change → Type 0
Every P cs = (j : ℕ) → j < length cs → P (nth cs j)

abbrev pub Placed : Change → List Change → Type 0
Placed c cs = (j : ℕ) × (j < length cs) × (nth cs j ≡ c)

abbrev pub Ascending : List Change → Type 0
Ascending cs = (i j : ℕ) → i < j → j < length cs → slot_of (nth cs i) < slot_of (nth cs j)

every_cons : (P : Change → Type 0) (c : Change) (cs : List Change) → P c → Every P cs → Every P (c ∷ cs)
every_cons P c cs p ps zero h = p
every_cons P c cs p ps (suc j) h = ps j (omega arith)

ascending_cons : (c : Change) (cs : List Change) → Every (λ d. slot_of c < slot_of d) cs → Ascending cs → Ascending (c ∷ cs)
ascending_cons c cs below a i zero h l = absurd (omega arith)
ascending_cons c cs below a zero (suc j) h l = below j (omega arith)
ascending_cons c cs below a (suc i) (suc j) h l = a i j (omega arith) (omega arith)

-- ---- words in a row

-- c is the change of one of the n words from word k on
pub record ChangeIn (older newer : Mem) (n k : ℕ) (c : Change) : Type 0 where
  pub word : ℕ
  pub from : k ≤ word
  pub below : word < k + n
  pub differs : ¬ (older word ≡ newer word)
  pub is : c ≡ change_at older newer word

module _ (older newer : Mem) where
  -- what holds of the changes, by the first word: the same in both, or a change
  by_first : (P : List Change → Type 0) (n k : ℕ) → (older k ≡ newer k → P (changes_from n (suc k) older newer))
      → (¬ (older k ≡ newer k) → P (change_at older newer k ∷ changes_from n (suc k) older newer)) → P (changes_from (suc n) k older newer)
  by_first P n k f g =
      on_eq (older k) (newer k) (λ e. rw (first_same older newer n k e) (f e)) (λ d. rw (first_differs older newer n k d) (g d))

  wider : (n k : ℕ) (c : Change) → ChangeIn older newer n (suc k) c → ChangeIn older newer (suc n) k c
  wider n k c r = record { word = r.word; from = omega arith; below = omega arith; differs = r.differs; is = r.is }

  itself : (n k : ℕ) → ¬ (older k ≡ newer k) → ChangeIn older newer (suc n) k (change_at older newer k)
  itself n k d = record { word = k; from = omega arith; below = omega arith; differs = d; is = refl }

  pub in_range : (n k : ℕ) → Every (ChangeIn older newer n k) (changes_from n k older newer)
  in_range zero k = λ j h. absurd (omega (arith, ap length (no_words older newer k)))
  in_range (suc n) k =
      let among = ChangeIn older newer (suc n) k in
      let rest = changes_from n (suc k) older newer in
      let later : Every among rest = λ j h. wider n k _ (in_range n (suc k) j h) in
      by_first (Every among) n k (λ e. later) (λ d. every_cons among (change_at older newer k) rest (itself n k d) later)

  pub ascending : (n k : ℕ) → Ascending (changes_from n k older newer)
  ascending zero k = λ i j h l. absurd (omega (arith, ap length (no_words older newer k)))
  ascending (suc n) k =
      let first = change_at older newer k in
      let rest = changes_from n (suc k) older newer in
      let later : Every (λ d. slot_of first < slot_of d) rest = λ j h. let r = in_range n (suc k) j h in rw r.is (omega arith) in
      by_first Ascending n k (λ e. ascending n (suc k)) (λ d. ascending_cons first rest later (ascending n (suc k)))

  -- each word that differs has its change in the list
  pub found : (n k w : ℕ) → k ≤ w → w < k + n → ¬ (older w ≡ newer w) → Placed (change_at older newer w) (changes_from n k older newer)
  found zero k w lo hi d = absurd (omega arith)
  found (suc n) k w lo hi d =
      let c = change_at older newer w in
      let later : ¬ (w ≡ k) → Placed c (changes_from n (suc k) older newer) = λ ne. found n (suc k) w (omega arith) (omega arith) d in
      by_first (Placed c) n k
      (λ e. later (λ s. d (rw s e)))
      (λ f. on_eq w k (λ s. (0, omega arith, rw s refl)) (λ ne. let p = later ne in (suc p.0, omega (arith, p.1), p.2)))

-- ---- four words for each, and zeros

pub quadruple_at : (cs : List Change) (n j : ℕ) → quadruple (change_words cs ++ replicate n 0) j ≡ nth cs j
unfolding change_words
quadruple_at [] n j = rw (zero_at n (4 * j), zero_at n (4 * j + 1), zero_at n (4 * j + 2), zero_at n (4 * j + 3)) refl
quadruple_at (c ∷ cs) n zero = refl
quadruple_at (c ∷ cs) n (suc j) =
    let e : 4 * suc j ≡ suc (suc (suc (suc (4 * j)))) = omega arith in
    rw e (simp suc-add (quadruple_at cs n j))

pub zeros_after : (cs : List Change) (n p : ℕ) → 4 * length cs ≤ p → get_or (change_words cs ++ replicate n 0) p 0 ≡ 0
zeros_after cs n p h =
    let e : p ≡ length (change_words cs) + (p - 4 * length cs) = omega (arith, words_length cs) in
    rw e (get_or-append-add (change_words cs) (replicate n 0) (p - 4 * length cs) 0 ∙ zero_at n (p - 4 * length cs))
