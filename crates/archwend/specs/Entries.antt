-- What the exported operations on an entry, a level, a region's tables and a mask promise, in the definitions' terms.
-- Assumes nothing.
use Rattle.std.specs.Prelude.{◌≡◌, Bool, cond, List, ℕ, eqb, Option, None, Some}
use Rattle.definitions.specs.Entry.{Answer, present, large, set_table, set_leaf, set_address, read_address, set_leaf_address, Reading, read_leaf_address, mapped_size, level_index}
use Rattle.definitions.specs.Ranges.{table_in}
use Rattle.definitions.specs.declared.Region.{Region}
use Rattle.masks.specs.Promises.{Splits}

-- ---- the forms that C has for an answer (§3.14)

-- the number is returned, and the word is left where the caller said
pub record Leaves (a : Answer) (n word : ℕ) : Type 0 where
  pub number : n ≡ a.number
  pub word_is : word ≡ a.word

-- true is 1
abbrev pub flag : Bool → ℕ
flag b = cond b 1 0

-- how many values there are
abbrev pub counted : Option ℕ → ℕ
counted None = 0
counted (Some x) = 1

-- the value, or 0
abbrev pub or_zero : Option ℕ → ℕ
or_zero None = 0
or_zero (Some x) = x

-- 1 is returned and the value left, or 0 and 0
pub record Finds (o : Option ℕ) (n word : ℕ) : Type 0 where
  pub found : n ≡ counted o
  pub value : word ≡ or_zero o

-- the refusal's number, or how many values there are
abbrev pub told_by : Reading → ℕ
told_by r = cond (eqb r.number 0) (counted r.found) r.number

-- 1 is returned and the value left, or 0 and 0, or 20 and 0
pub record FindsIn (r : Reading) (n word : ℕ) : Type 0 where
  pub told : n ≡ told_by r
  pub value : word ≡ or_zero r.found

-- entry e becomes a fresh one of a kind (§3.12): 3 is a table entry, any other a leaf of that level, which `set_leaf` refuses
-- above 2
unfoldable pub fresh_of : ℕ → ℕ → ℕ → Answer
fresh_of kind e a = cond (eqb kind 3) (set_table e a) (set_leaf kind e a)

-- ---- the promises: what is returned, and the word that is left

abbrev pub SetsFresh : ℕ → ℕ → ℕ → ℕ → ℕ → Type 0
SetsFresh e kind a n word = Leaves (fresh_of kind e a) n word

abbrev pub SetsAddr : ℕ → ℕ → ℕ → ℕ → Type 0
SetsAddr e a n word = Leaves (set_address e a) n word

abbrev pub ReadsAddr : ℕ → ℕ → ℕ → Type 0
ReadsAddr e n word = Finds (read_address e) n word

abbrev pub SetsLeafAddr : ℕ → ℕ → ℕ → ℕ → ℕ → Type 0
SetsLeafAddr e level a n word = Leaves (set_leaf_address level e a) n word

abbrev pub ReadsLeafAddr : ℕ → ℕ → ℕ → ℕ → Type 0
ReadsLeafAddr e level n word = FindsIn (read_leaf_address level e) n word

abbrev pub FlagsPresent : ℕ → ℕ → Type 0
FlagsPresent e n = n ≡ flag (present e)

abbrev pub FlagsLarge : ℕ → ℕ → Type 0
FlagsLarge e n = n ≡ flag (large e)

abbrev pub ClearsWord : ℕ → Type 0
ClearsWord word = word ≡ 0

abbrev pub SizesLevel : ℕ → ℕ → ℕ → Type 0
SizesLevel level n word = Leaves (mapped_size level) n word

abbrev pub IndexesLevel : ℕ → ℕ → ℕ → ℕ → Type 0
IndexesLevel gva level n word = Leaves (level_index level gva) n word

abbrev pub FindsTable : Region → ℕ → ℕ → ℕ → Type 0
FindsTable r a n word = Finds (table_in r a) n word

abbrev pub SplitsInto : ℕ → ℕ → List ℕ → Type 0
SplitsInto mask n bits = Splits mask (record { bits = bits; count = n })
