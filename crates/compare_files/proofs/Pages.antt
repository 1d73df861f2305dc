-- Two pages held against each other, and the pages of two images one after the other.
-- Assumes nothing.
use Rattle.std.proofs.Common.{◌≡◌, ℕ, zero, suc, ◌+◌, ◌-◌, ◌*◌, ◌/◌, ◌%◌, ◌<◌, ◌≤◌, Bool, true, false, cond, eqb, List, [], ◌∷◌, ◌++◌, length, take, drop, replicate, sym, refl, ap, ◌∙◌, ap₂, add-zero, add-suc, arith, length-append, length-drop, length-take-le, get_or-drop, get_or-take}
use Rattle.std.specs.Prelude.{Result}
use Rattle.definitions.specs.Words.{Mem, number, words_of}
use Rattle.definitions.specs.Compare.{Change, change_at, changes_from, changes, comparable, listed}
use Rattle.definitions.proofs.Compare.{changes_split, comparable_iff, compare_listed}
use Rattle.compare.specs.Meaning.{changes_of, compared, count_in, Compares}
use Rattle.compare.specs.declared.Differences.{Differences}
use Rattle.definitions.specs.declared.refusals.Error.{Error}
use Rattle.compare_files.specs.Text.{lines, count_line, printed, quadruples, as_of, in_table, page_lines, page, pages_count, pages_lines}
use Rattle.compare_files.specs.Meaning.{CountsPage}
use Rattle.compare_files.proofs.Lines.{lines_append, quadruples_words}

-- ---- one page

-- each word has at most one change
at_most_lem : {A : Type 0} (b : Bool) (c : A) (cs : List A) → length (cond b cs (c ∷ cs)) ≤ suc (length cs)
at_most_lem true c cs = omega arith
at_most_lem false c cs = omega arith

changes_few : (older newer : Mem) (n k : ℕ) → length (changes_from n k older newer) ≤ n
unfolding changes_from
changes_few older newer zero k = omega arith
changes_few older newer (suc n) k =
    omega (
      arith,
      at_most_lem (eqb (older k) (newer k)) (change_at older newer k) (changes_from n (suc k) older newer),
      changes_few older newer n (suc k),
    )

module _ (older newer : List ℕ) (o : length older ≡ 4096) (n : length newer ≡ 4096) where
  page_few : length (changes_of older newer) ≤ 512
  unfolding changes
  page_few = omega (arith, changes_few (words_of older) (words_of newer) (length newer / 8) 0)

  page_compared : (room : ℕ) → room ≡ 2048 → compared older newer room ≡ listed 2048 (changes_of older newer)
  unfolding comparable
  page_compared room r =
      ap (compared older newer) r
      ∙ compare_listed (length older) (words_of older) (length newer) (words_of newer) 2048 (rw (o, n) refl)
      (omega (arith, page_few))

  pub page_counted : {room : ℕ} {answer : Result Differences Error} {list : List ℕ} → room ≡ 2048
      → Compares older newer room answer list → CountsPage older newer list (count_in answer)
  unfolding listed
  page_counted {room} r c =
      let both = page_compared room r in
      let e = c.counted ∙ ap (λ x. x.count) both in
      record {
        counted = e;
        few = omega (arith, e, page_few);
        listed = c.listed ∙ ap (λ x. x.list) both;
      }

pub page_lines_lem : {older newer list : List ℕ} {n : ℕ} (t : ℕ) → CountsPage older newer list n
    → lines (in_table t (quadruples n list)) ≡ page_lines t older newer
page_lines_lem {older} {newer} {list} {n} t c =
    let cs = changes_of older newer in
    let e : quadruples n list ≡ cs =
    ap₂ quadruples c.counted c.listed ∙ quadruples_words cs (replicate (2048 - 4 * length cs) 0) in
    ap (λ (ds : List Change). lines (in_table t ds)) e

-- ---- the pages of an image

page_number : (n a m : ℕ) (xs : List ℕ) (p : ℕ) → p + n ≤ m → number n (take m (drop a xs)) p ≡ number n xs (a + p)
unfolding number
page_number zero a m xs p h = refl
page_number (suc n) a m xs p h =
    ap₂ (λ (x y : ℕ). x + 256 * y) (get_or-take m (drop a xs) p 0 (omega arith) ∙ get_or-drop a xs p 0)
    (page_number n a m xs (suc p) (omega arith) ∙ ap (number n xs) (omega arith))

page_word : (t : ℕ) (xs : List ℕ) (k : ℕ) → k < 512 → words_of (page t xs) k ≡ words_of xs (512 * t + k)
unfolding words_of
page_word t xs k h = page_number 8 (4096 * t) 4096 xs (8 * k) (omega arith) ∙ ap (number 8 xs) (omega arith)

-- a change or none, taken as one of table t
table_cond : (t : ℕ) (b : Bool) (c : Change) (cs : List Change)
    → in_table t (cond b cs (c ∷ cs)) ≡ cond b (in_table t cs) (as_of t c ∷ in_table t cs)
unfolding in_table
table_cond t true c cs = refl
table_cond t false c cs = refl

module _ (t : ℕ) (o n p q : Mem)
    (old : (k : ℕ) → k < 512 → p k ≡ o (512 * t + k))
    (new : (k : ℕ) → k < 512 → q k ≡ n (512 * t + k)) where
  table_changes : (m j : ℕ) → j + m ≤ 512 → in_table t (changes_from m j p q) ≡ changes_from m (512 * t + j) o n
  unfolding changes_from in_table
  table_changes zero j h = refl
  table_changes (suc m) j h =
      let in_page : j < 512 = omega arith in
      let rest : in_table t (changes_from m (suc j) p q) ≡ changes_from m (suc (512 * t + j)) o n =
      table_changes m (suc j) (omega arith) ∙ ap (λ (k : ℕ). changes_from m k o n) (add-suc (512 * t) j) in
      let as_table : (512 * t + j) / 512 ≡ t = omega arith in
      let as_entry : (512 * t + j) % 512 ≡ j % 512 = omega arith in
      table_cond t (eqb (p j) (q j)) (change_at p q j) (changes_from m (suc j) p q)
      ∙ rw (rest, old j in_page, new j in_page, as_table, as_entry)

-- ---- the pages one after the other

table_length : (t : ℕ) (cs : List Change) → length (in_table t cs) ≡ length cs
unfolding in_table
table_length t [] = refl
table_length t (c ∷ cs) = ap suc (table_length t cs)

module _ (older newer : List ℕ) where
  -- the changes of m pages from page t on
  abbrev from : ℕ → ℕ → List Change
  from m t = changes_from (512 * m) (512 * t) (words_of older) (words_of newer)

  page_whole : (t : ℕ) → 4096 * t + 4096 ≤ length newer → in_table t (changes_of (page t older) (page t newer)) ≡ from 1 t
  unfolding changes
  page_whole t h =
      let n : length (page t newer) ≡ 4096 =
      length-take-le 4096 (drop (4096 * t) newer) (omega (arith, length-drop (4096 * t) newer)) in
      rw n
      (table_changes t (words_of older) (words_of newer) (words_of (page t older)) (words_of (page t newer)) (page_word t older)
      (page_word t newer) 512 0 (omega arith)
      ∙ ap (λ (k : ℕ). changes_from 512 k (words_of older) (words_of newer)) (add-zero (512 * t)))

  pages_split : (m t : ℕ) → from (suc m) t ≡ from 1 t ++ from m (suc t)
  pages_split m t =
      let all : 512 * suc m ≡ 512 + 512 * m = omega arith in
      let next : 512 * t + 512 ≡ 512 * suc t = omega arith in
      rw (all, ← next) (changes_split (words_of older) (words_of newer) 512 (512 * m) (512 * t))

  by_lines : (m t : ℕ) → 4096 * t + 4096 * m ≤ length newer → pages_lines m t older newer ≡ lines (from m t)
  unfolding pages_lines lines changes_from
  by_lines zero t h = refl
  by_lines (suc m) t h =
      ap₂ (λ (xs ys : List ℕ). xs ++ ys) (ap lines (page_whole t (omega arith))) (by_lines m (suc t) (omega arith))
      ∙ sym (ap lines (pages_split m t) ∙ lines_append (from 1 t) (from m (suc t)))

  by_count : (m t : ℕ) → 4096 * t + 4096 * m ≤ length newer → pages_count m t older newer ≡ length (from m t)
  unfolding pages_count changes_from
  by_count zero t h = refl
  by_count (suc m) t h =
      let cs = changes_of (page t older) (page t newer) in
      ap₂ (λ (x y : ℕ). x + y) (sym (table_length t cs) ∙ ap length (page_whole t (omega arith))) (by_count m (suc t) (omega arith))
      ∙ sym (ap length (pages_split m t) ∙ length-append (from 1 t) (from m (suc t)))

  -- what the program prints, page by page, is the output of the whole images
  pub printed_by_pages : comparable (length older) (length newer) ≡ true
      → let m = length newer / 4096 in
      count_line (pages_count m 0 older newer) ++ pages_lines m 0 older newer
      ≡ printed (length newer) (words_of older) (words_of newer)
  unfolding printed changes
  printed_by_pages c =
      let m = length newer / 4096 in
      let whole = ((comparable_iff (length older) (length newer)).0 c).whole in
      let all : 512 * m ≡ length newer / 8 = omega (arith, whole) in
      ap₂ (λ (k : ℕ) (xs : List ℕ). count_line k ++ xs) (by_count m 0 (omega (arith, whole))) (by_lines m 0 (omega (arith, whole)))
      ∙ ap (λ (k : ℕ). let cs = changes_from k 0 (words_of older) (words_of newer) in count_line (length cs) ++ lines cs) all
