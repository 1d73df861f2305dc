-- What the program prints, as bytes: a line with the count, and a line for each entry that differs.
-- Assumes nothing.
use Rattle.std.specs.Prelude.{ℕ, zero, suc, ◌+◌, ◌*◌, ◌/◌, cond, List, [], ◌∷◌, ◌++◌, length, take, drop, nat_lt}
use Rattle.io.specs.Digits.{last_digits}
use Rattle.definitions.specs.Words.{Mem}
use Rattle.definitions.specs.Compare.{Change, changes, quadruple}
use Rattle.compare.specs.Meaning.{changes_of}

-- ---- one line

-- how many digits n has in base b, as far as `most` more than one
unfoldable pub places_to : ℕ → ℕ → ℕ → ℕ
places_to zero b n = 1
places_to (suc most) b n = let more = suc (places_to most b (n / b)) in cond (nat_lt n b) 1 more

-- n in base b, with no zero in front; 0 is one digit
unfoldable pub numeral : ℕ → ℕ → List ℕ
numeral b n = last_digits b (places_to n b n) n

-- a number in base b, and the byte after it
unfoldable pub field : ℕ → ℕ → ℕ → List ℕ
field b n end = numeral b n ++ end ∷ []

abbrev pub space : ℕ
space = 32

abbrev pub newline : ℕ
newline = 10

-- table and entry in decimal, both values in hexadecimal
unfoldable pub line_of : ℕ → ℕ → ℕ → ℕ → List ℕ
line_of table entry before after = field 10 table space ++ field 10 entry space ++ field 16 before space ++ field 16 after newline

abbrev pub line : Change → List ℕ
line c = line_of c.table c.entry c.before c.after

unfoldable pub lines : List Change → List ℕ
lines [] = []
lines (c ∷ cs) = line c ++ lines cs

-- `differences `
abbrev pub differences : List ℕ
differences = 100 ∷ 105 ∷ 102 ∷ 102 ∷ 101 ∷ 114 ∷ 101 ∷ 110 ∷ 99 ∷ 101 ∷ 115 ∷ space ∷ []

unfoldable pub count_line : ℕ → List ℕ
count_line n = differences ++ field 10 n newline

-- ---- by pages

-- the first n quadruples of a list of words
unfoldable pub quadruples : ℕ → List ℕ → List Change
quadruples zero ws = []
quadruples (suc n) ws = quadruple ws 0 ∷ quadruples n (drop 4 ws)

-- a change of a page alone, as one of table t, and a list of them
abbrev pub as_of : ℕ → Change → Change
as_of t c = record { table = t; entry = c.entry; before = c.before; after = c.after }

unfoldable pub in_table : ℕ → List Change → List Change
in_table t [] = []
in_table t (c ∷ cs) = as_of t c ∷ in_table t cs

-- the lines of two pages, the pages t of two images
abbrev pub page_lines : ℕ → List ℕ → List ℕ → List ℕ
page_lines t older newer = lines (in_table t (changes_of older newer))

-- ---- the whole

-- the output for two images of so many bytes
unfoldable pub printed : ℕ → Mem → Mem → List ℕ
printed size older newer = count_line (length (changes size older newer)) ++ lines (changes size older newer)

-- the same as the program makes it: page t of an image; the count and the lines of n pages from page t on, page by page
abbrev pub page : ℕ → List ℕ → List ℕ
page t image = take 4096 (drop (4096 * t) image)

unfoldable pub pages_count : ℕ → ℕ → List ℕ → List ℕ → ℕ
pages_count zero t older newer = 0
pages_count (suc n) t older newer = length (changes_of (page t older) (page t newer)) + pages_count n (suc t) older newer

unfoldable pub pages_lines : ℕ → ℕ → List ℕ → List ℕ → List ℕ
pages_lines zero t older newer = []
pages_lines (suc n) t older newer = page_lines t (page t older) (page t newer) ++ pages_lines n (suc t) older newer
