-- How a comparison ends: the part that the count and the list name, and the promise from what the steps give.
-- Assumes nothing.
use mathlib.Core.Path.{◌≡◌, refl, sym, ap, ap₂, ◌∙◌}
use mathlib.Core.List.{List, [], ◌∷◌, ◌++◌}
use Prim.Native.Nat.{ℕ, ◌-◌, ◌*◌, ◌/◌, ◌≤◌}
use native.Mathlib.Omega.{arith}
use lib.ListN.{length, replicate, take, drop, length-take, length-drop, length-append, length-replicate}
use Rattle.definitions.specs.Words.{words_of}
use Rattle.definitions.specs.Compare.{Change, changes, change_words, page_start, page_length, Compared, not_compared, listed}
use Rattle.definitions.proofs.Compare.{page_inside, words_length, comparable_iff, compare_listed}
use Rattle.std.specs.Prelude.{Result, Ok, Err}
use Rattle.definitions.specs.Refusals.{number_of, number_in}
use Rattle.definitions.specs.declared.refusals.Error.{Error}
use Rattle.compare.specs.declared.Differences.{Differences}
use Rattle.compare.specs.Meaning.{compared, changes_of, Lists, count_in, start_in, part_in, part_of, first_byte, byte_count, Inside, Accepts, Compares}

-- ---- the list's first quadruple is the first change
module _ (zs : List ℕ) where
  start_of : (cs : List Change) → first_byte (length cs) (change_words cs ++ zs) ≡ page_start cs
  unfolding change_words page_start
  start_of [] = refl
  start_of (c ∷ cs) = refl

length_of : (cs : List Change) → byte_count (length cs) ≡ page_length cs
unfolding page_length
length_of [] = refl
length_of (c ∷ cs) = refl

-- ---- the promise, from what the steps give
module _ (older newer : List ℕ) (room : ℕ) where
  abbrev cs : List Change
  cs = changes_of older newer

  -- from a comparison that is known
  promise : (c : Compared) {answer : Result Differences Error} {list : List ℕ} → compared older newer room ≡ c → number_in answer ≡ c.number
      → count_in answer ≡ c.count → start_in answer ≡ c.start → part_in answer ≡ part_of newer c → list ≡ c.list
      → Compares older newer room answer list
  promise c q n k s p l =
      let e = sym q in
      record {
        numbered = n ∙ ap (λ (d : Compared). d.number) e;
        counted = k ∙ ap (λ (d : Compared). d.count) e;
        started = s ∙ ap (λ (d : Compared). d.start) e;
        handed = p ∙ ap (part_of newer) e;
        listed = l ∙ ap (λ (d : Compared). d.list) e;
      }

  pub refused : {e : Error} (list : List ℕ) {after : List ℕ} → Lists older newer room list (Err e) → after ≡ replicate (length list) 0
      → Compares older newer room (Err e) after
  unfolding not_compared
  refused {e} list l c = promise (not_compared (number_of e) room) l.0 refl refl refl refl (c ∙ ap (λ (n : ℕ). replicate n 0) l.1)

  -- the list as it was filled, and zeros after that
  module _ (n : ℕ) (list : List ℕ) (l : Lists older newer room list (Ok n)) where
    fits : 4 * length cs ≤ room
    fits =
        let t = length-take (4 * n) list in
        let w = ap length l.3 ∙ words_length cs in
        omega (arith, l.1, l.2)

    pub enough : 4 * n ≤ room
    enough = omega (arith, fits, l.1)

    abbrev zs : List ℕ
    zs = replicate (room - 4 * length cs) 0

    abbrev full : List ℕ
    full = take (4 * n) list ++ replicate (length (drop (4 * n) list)) 0

    filled : full ≡ change_words cs ++ zs
    filled =
        let d : length (drop (4 * n) list) ≡ room - 4 * length cs = length-drop (4 * n) list ∙ omega (arith, l.1, l.2) in
        ap₂ (λ (ws : List ℕ) (k : ℕ). ws ++ replicate k 0) l.3 d

    start : first_byte n full ≡ page_start cs
    start = ap₂ first_byte l.1 filled ∙ start_of zs cs

    size : byte_count n ≡ page_length cs
    size = ap byte_count l.1 ∙ length_of cs

    pub inside : (after : List ℕ) → after ≡ full → Inside newer after n
    unfolding changes
    inside after e =
        let w = (comparable_iff _ _).0 l.0 in
        let p = page_inside (words_of older) (words_of newer) (length newer) w.whole (length newer / 8) 0 (omega arith) in
        let c : length after ≡ room =
        ap length (e ∙ filled) ∙ length-append (change_words cs) zs
        ∙ omega (arith, words_length cs, length-replicate {A = ℕ} (room - 4 * length cs) 0, fits) in
        let s = ap (first_byte n) e ∙ start in
        (omega (arith, c, enough), omega (arith, p, s, size))

    pub whole : {after : List ℕ} {d : Differences} → after ≡ full → Accepts newer after n d → Compares older newer room (Ok d) after
    unfolding listed
    whole e a =
        let s = ap (first_byte n) e ∙ start in
        promise (listed room cs) (compare_listed _ _ _ _ _ l.0 fits) refl
        (a.counted ∙ l.1) (a.started ∙ s) (a.handed ∙ rw (s, size) refl) (e ∙ filled)
