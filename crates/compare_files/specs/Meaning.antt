-- What the functions promise: bytes put into a buffer, the differences of two pages, and what they add to a reading.
-- Assumes nothing.
use Rattle.std.specs.Prelude.{◌≡◌, ℕ, ◌+◌, ◌-◌, ◌*◌, ◌≤◌, Bool, cond, List, [], ◌++◌, length, replicate, Option, None, Some}
use Rattle.std.proofs.Math.Seq.{paste}
use Rattle.definitions.specs.Compare.{change_words}
use Rattle.compare.specs.Meaning.{changes_of}
use Rattle.compare_files.specs.declared.page.Page.{Page}
use Rattle.compare_files.specs.declared.Reading.{Reading}
use Rattle.compare_files.specs.Text.{page_lines}

-- a buffer d becomes e: from place `at` on it has a text s of at most `most` bytes, and r is the place after that
pub record Puts (most : ℕ) (d : List ℕ) (at : ℕ) (s e : List ℕ) (r : ℕ) : Type 0 where
  pub text : e ≡ paste d at s (length s)
  pub next : r ≡ at + length s
  pub short : length s ≤ most

-- n entries of two pages differ, and a list of 2048 words has them
pub record CountsPage (older newer list : List ℕ) (n : ℕ) : Type 0 where
  pub counted : n ≡ length (changes_of older newer)
  pub few : n ≤ 512
  pub listed : list ≡ change_words (changes_of older newer) ++ replicate (2048 - 4 * length (changes_of older newer)) 0

-- the same, and where they are to be listed a buffer d becomes e, with their lines, those of table t, at its start
pub record GivesPage (is_listing : Bool) (older newer : List ℕ) (t : ℕ) (list d e : List ℕ) (p : Page) : Type 0 where
  pub counts : CountsPage older newer list p.count
  pub puts : Puts (76 * p.count) d 0 (cond is_listing (page_lines t older newer) []) e p.length

-- a reading with two pages held against each other, where no write failed
abbrev pub HoldsPage : Reading → List ℕ → List ℕ → Option Reading → Type 0
HoldsPage r older newer (Some s) =
    (s.older ≡ r.older) × (s.newer ≡ r.newer) × (s.count ≡ r.count + length (changes_of older newer))
    × (length (changes_of older newer) ≤ 512)
HoldsPage r older newer None = Unit
