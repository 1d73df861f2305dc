-- The changes of two images, and their words in a list.
-- Assumes nothing.
use mathlib.Core.Path.{◌≡◌, refl, sym, ap, ◌∙◌}
use mathlib.Core.Bool.{true, false}
use mathlib.Core.List.{List, [], ◌∷◌, ◌++◌, append-nil}
use mathlib.Core.Logic.{◌↔◌}
use Prim.Native.Nat.{ℕ, zero, suc, ◌+◌, ◌-◌, ◌*◌, ◌%◌, ◌≤◌, ◌<◌}
use native.Mathlib.Nat.{zero-add, add-zero, suc-add}
use native.Mathlib.Omega.{arith}
use lib.Dec.{eqb}
use lib.ListN.{length, get_or, length-append, length-replicate}
use borrow.Author.Tests.{eqb-true, leb-true, eq-eqb, ne_eqb, le-leb, lt-ltb, le-ltb}
use Rattle.definitions.specs.Words.{Mem}
use Rattle.definitions.specs.Compare.{Change, change_at, changes_from, changes, change_words, page_start, page_length, comparable, not_compared, listed, fitted, compare}
use Rattle.definitions.proofs.Splits.{on_eq}
use Rattle.definitions.proofs.Answers.{and_both, and_true}
use Rattle.definitions.proofs.Numbers.{suc_across}
use Rattle.definitions.proofs.Words.{zero_at}

eqb_self : (a : ℕ) → eqb a a ≡ true
eqb_self a = eq-eqb a a refl

module _ (older newer : Mem) where
  pub no_words : (k : ℕ) → changes_from 0 k older newer ≡ []
  unfolding changes_from
  no_words k = refl

  -- the first word: the same in both, or a change
  pub first_same : (n k : ℕ) → older k ≡ newer k → changes_from (suc n) k older newer ≡ changes_from n (suc k) older newer
  unfolding changes_from
  first_same n k e = rw (e, eqb_self) refl

  pub first_differs : (n k : ℕ) → ¬ (older k ≡ newer k)
      → changes_from (suc n) k older newer ≡ change_at older newer k ∷ changes_from n (suc k) older newer
  unfolding changes_from
  first_differs n k d = rw ne_eqb refl

  -- the changes of words in a row are those of the first ones, and then those of the rest
  pub changes_split : (a b k : ℕ) → changes_from (a + b) k older newer ≡ changes_from a k older newer ++ changes_from b (k + a) older newer
  changes_split zero b k = rw (zero-add b, add-zero k, no_words k) refl
  changes_split (suc a) b k =
      let rest = changes_from a (suc k) older newer in
      let last = changes_from b (k + suc a) older newer in
      let h : changes_from (a + b) (suc k) older newer ≡ rest ++ last =
      changes_split a b (suc k) ∙ ap (λ (j : ℕ). rest ++ changes_from b j older newer) (suc_across k a) in
      rw (suc-add a b)
      (on_eq (older k) (newer k)
      (λ e. rw (first_same (a + b) k e, first_same a k e) h)
      (λ d. rw (first_differs (a + b) k d, first_differs a k d) (ap (λ (cs : List Change). change_at older newer k ∷ cs) h)))

  -- one word more: the same in both, or a change
  pub changes_same : (k : ℕ) → older k ≡ newer k → changes_from (k + 1) 0 older newer ≡ changes_from k 0 older newer
  changes_same k e = changes_split k 1 0 ∙ rw (zero-add k, first_same 0 k e, no_words (suc k)) (append-nil (changes_from k 0 older newer))

  pub changes_differ : (k : ℕ) → ¬ (older k ≡ newer k)
      → changes_from (k + 1) 0 older newer ≡ changes_from k 0 older newer ++ (change_at older newer k ∷ [])
  changes_differ k d = changes_split k 1 0 ∙ rw (zero-add k, first_differs 0 k d, no_words (suc k)) refl

  -- fewer words have no more changes
  pub changes_fewer : (a n : ℕ) → a ≤ n → length (changes_from a 0 older newer) ≤ length (changes_from n 0 older newer)
  changes_fewer a n h =
      let fewer = changes_from a 0 older newer in
      let rest = changes_from (n - a) (0 + a) older newer in
      let e : a + (n - a) ≡ n = omega arith in
      let s : changes_from n 0 older newer ≡ fewer ++ rest =
      ap (λ (j : ℕ). changes_from j 0 older newer) (sym e) ∙ changes_split a (n - a) 0 in
      let l : length (changes_from n 0 older newer) ≡ length fewer + length rest = ap length s ∙ length-append fewer rest in
      omega arith

  -- the first page that differs lies inside images of whole pages
  pub page_inside : (size : ℕ) → size % 4096 ≡ 0 → (n k : ℕ) → 8 * (k + n) ≤ size
      → page_start (changes_from n k older newer) + page_length (changes_from n k older newer) ≤ size
  unfolding page_start page_length
  page_inside size whole zero k h = rw (no_words k) (omega arith)
  page_inside size whole (suc n) k h =
      on_eq (older k) (newer k) (λ e. rw (first_same n k e) (page_inside size whole n (suc k) (omega arith)))
      (λ d. rw (first_differs n k d) (omega arith))

-- ---- four words for each change

pub words_append : (cs ds : List Change) → change_words (cs ++ ds) ≡ change_words cs ++ change_words ds
unfolding change_words
words_append [] ds = refl
words_append (c ∷ cs) ds = rw (words_append cs ds) refl

pub words_length : (cs : List Change) → length (change_words cs) ≡ 4 * length cs
unfolding change_words
words_length [] = refl
words_length (c ∷ cs) = let h = words_length cs in omega arith

-- ---- what is handed back

pub listed_length : (room : ℕ) (cs : List Change) → 4 * length cs ≤ room → length (listed room cs).list ≡ room
unfolding listed
listed_length room cs h =
    length-append (change_words cs) _ ∙ omega (arith, words_length cs, length-replicate {A = ℕ} (room - 4 * length cs) 0)

-- of a refusal: a list as long, and nothing
pub refused_length : (n room : ℕ) → length (not_compared n room).list ≡ room
unfolding not_compared
refused_length n room = length-replicate room 0

pub refused_nothing : (n room : ℕ) → let c = not_compared n room in
    (c.count ≡ 0) × ((p : ℕ) → get_or c.list p 0 ≡ 0) × (c.start ≡ 0) × (c.size ≡ 0)
unfolding not_compared
refused_nothing n room = (refl, zero_at room, refl, refl)

-- ---- the cases of a comparison

-- lengths that are comparable, in numbers
pub record Comparable (older newer : ℕ) : Type 0 where
  pub equal : older ≡ newer
  pub whole : newer % 4096 ≡ 0
  pub most : newer ≤ 2097152

pub comparable_iff : (older newer : ℕ) → (comparable older newer ≡ true) ↔ Comparable older newer
unfolding comparable
comparable_iff older newer = (
  λ e. let s = and_both _ _ e in
      let t = and_both _ _ s.0 in
      record { equal = eqb-true _ _ t.0; whole = eqb-true _ _ t.1; most = leb-true _ _ s.1 },
  λ c. and_true _ _ (and_true _ _ (eq-eqb _ _ c.equal) (eq-eqb _ _ c.whole)) (le-leb _ _ c.most),
)

module _ (older_length : ℕ) (older : Mem) (newer_length : ℕ) (newer : Mem) (room : ℕ) where
  abbrev cs : List Change
  cs = changes newer_length older newer

  pub compare_refused : comparable older_length newer_length ≡ false
      → compare older_length older newer_length newer room ≡ not_compared 34 room
  unfolding compare
  compare_refused e = rw e refl

  pub compare_short : comparable older_length newer_length ≡ true → room < 4 * length cs
      → compare older_length older newer_length newer room ≡ not_compared 15 room
  unfolding compare fitted
  compare_short e h = rw (e, lt-ltb) refl

  pub compare_listed : comparable older_length newer_length ≡ true → 4 * length cs ≤ room
      → compare older_length older newer_length newer room ≡ listed room cs
  unfolding compare fitted
  compare_listed e h = rw (e, le-ltb) refl
