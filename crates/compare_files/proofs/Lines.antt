-- The lines of changes: of lists one after the other, and of a list of words, read quadruple by quadruple.
-- Assumes nothing.
use Rattle.std.proofs.Common.{◌≡◌, ℕ, zero, suc, ◌+◌, ◌*◌, ◌<◌, ◌≤◌, List, [], ◌∷◌, ◌++◌, length, get_or, drop, sym, refl, ap, ◌∙◌, append_assoc, append-nil, suc-add, arith, get_or-drop}
use lib.Seq.{paste-zero}
use Rattle.definitions.specs.Compare.{Change, change_words, quadruple}
use Rattle.compare_files.specs.Text.{line, line_of, lines, quadruples, as_of, in_table}
use Rattle.compare_files.specs.Meaning.{Puts}
use Rattle.compare_files.proofs.Text.{joins, puts_length}

pub lines_append : (cs ds : List Change) → lines (cs ++ ds) ≡ lines cs ++ lines ds
unfolding lines
lines_append [] ds = refl
lines_append (c ∷ cs) ds =
    ap (λ (xs : List ℕ). line c ++ xs) (lines_append cs ds) ∙ sym (append_assoc (line c) (lines cs) (lines ds))

pub table_append : (t : ℕ) (cs ds : List Change) → in_table t (cs ++ ds) ≡ in_table t cs ++ in_table t ds
unfolding in_table
table_append t [] ds = refl
table_append t (c ∷ cs) ds =
    ap (λ (es : List Change). as_of t c ∷ es) (table_append t cs ds)

-- ---- quadruples

-- four words further on
further : (ws : List ℕ) (k m : ℕ) → 4 + k ≡ m → get_or (drop 4 ws) k 0 ≡ get_or ws m 0
further ws k m e = get_or-drop 4 ws k 0 ∙ ap (λ (i : ℕ). get_or ws i 0) e

quadruple_further : (ws : List ℕ) (j : ℕ) → quadruple (drop 4 ws) j ≡ quadruple ws (suc j)
quadruple_further ws j =
    rw (
      further ws (4 * j) (4 * suc j) (omega arith),
      further ws (4 * j + 1) (4 * suc j + 1) (omega arith),
      further ws (4 * j + 2) (4 * suc j + 2) (omega arith),
      further ws (4 * j + 3) (4 * suc j + 3) (omega arith),
    )

quadruples_more : (j : ℕ) (ws : List ℕ) → quadruples (j + 1) ws ≡ quadruples j ws ++ (quadruple ws j ∷ [])
unfolding quadruples
quadruples_more zero ws = refl
quadruples_more (suc j) ws =
    rw (suc-add j 1, quadruples_more j (drop 4 ws), quadruple_further ws j)

-- the quadruples of changes' words are the changes
pub quadruples_words : (cs : List Change) (zs : List ℕ) → quadruples (length cs) (change_words cs ++ zs) ≡ cs
unfolding quadruples change_words
quadruples_words [] zs = refl
quadruples_words (c ∷ cs) zs = ap (λ (ds : List Change). c ∷ ds) (quadruples_words cs zs)

-- ---- a loop that puts the lines of the first `count` quadruples of ws, and has come to quadruple j

abbrev lines_to : ℕ → List ℕ → ℕ → List ℕ
lines_to t ws j = lines (in_table t (quadruples j ws))

-- the line of quadruple j
abbrev line_at : ℕ → List ℕ → ℕ → List ℕ
line_at t ws j = line_of t (get_or ws (4 * j + 1) 0) (get_or ws (4 * j + 2) 0) (get_or ws (4 * j + 3) 0)

pub record Listing (t count : ℕ) (ws d e : List ℕ) (at j : ℕ) : Type 0 where
  pub within : j ≤ count
  pub put : Puts (76 * j) d 0 (lines_to t ws j) e at

lines_more : (t : ℕ) (ws : List ℕ) (j : ℕ) → lines_to t ws (j + 1) ≡ lines_to t ws j ++ line_at t ws j
unfolding lines in_table
lines_more t ws j =
    let before = quadruples j ws in
    rw (
      quadruples_more j ws,
      table_append t before (quadruple ws j ∷ []),
      lines_append (in_table t before) (in_table t (quadruple ws j ∷ [])),
    )
    (ap (λ (xs : List ℕ). lines_to t ws j ++ xs) (append-nil (line_at t ws j)))

module _ (t count : ℕ) (ws d : List ℕ) where
  pub begins : Listing t count ws d d 0 0
  unfolding lines in_table quadruples
  begins = record { within = omega arith; put = record { text = paste-zero d 0 []; next = refl; short = omega arith } }

  module _ {e : List ℕ} {at j : ℕ} (l : Listing t count ws d e at j) (room : 76 * count ≤ length d) where
    pub as_long : length e ≡ length d
    as_long = puts_length (omega (arith, l.within)) l.put

    pub ready : j < count → at + 76 ≤ length e
    ready h = omega (arith, as_long, l.put.next, l.put.short)

    pub again : {f : List ℕ} {next : ℕ} → j < count → Puts 76 e at (line_at t ws j) f next → Listing t count ws d f next (j + 1)
    again h p =
        let both = joins (omega arith) l.put p in
        record {
          within = omega arith;
          put = rw (lines_more t ws j) (record { text = both.text; next = both.next; short = omega (arith, both.short) });
        }

    pub ends : count ≤ j → Puts (76 * count) d 0 (lines_to t ws count) e at
    ends h =
        let same : j ≡ count = omega (arith, l.within) in
        rw (← same) l.put
