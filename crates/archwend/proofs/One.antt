-- What the promises of the exported functions allow is one outcome.
-- Assumes nothing.
use mathlib.Core.Path.{◌≡◌, sym, ◌∙◌}
use mathlib.Core.List.{List}
use Rattle.std.specs.Prelude.{Option}
use Prim.Native.Nat.{ℕ}
use Rattle.definitions.specs.Inputs.{Job}
use Rattle.definitions.specs.declared.Region.{Region}
use Rattle.definitions.specs.Entry.{Answer, set_address, read_address, set_leaf_address, mapped_size, level_index}
use Rattle.definitions.specs.Ranges.{table_in}
use Rattle.archwend.specs.Exports.{Answers, LoadsPage, ComparesImages, NamesInterface}
use Rattle.archwend.specs.Entries.{Leaves, Finds, fresh_of, SetsFresh, SetsAddr, ReadsAddr, SetsLeafAddr, ReadsLeafAddr, FlagsPresent, FlagsLarge, ClearsWord}
use Rattle.archwend.specs.Entries.{SizesLevel, IndexesLevel, FindsTable, SplitsInto}

-- the report, the output and the scratch
module _ (j : Job) (r r' o o' s s' : List ℕ) where
  pub one_build : Answers j r o s → Answers j r' o' s' → (r ≡ r') × (o ≡ o') × (s ≡ s')
  one_build a b = (a.reported ∙ sym b.reported, a.built ∙ sym b.built, a.cleared ∙ sym b.cleared)

-- the number, and the image
module _ (cr4 : ℕ) (r : Region) (image : List ℕ) (gpa : ℕ) (page : List ℕ) (n n' : ℕ) (xs xs' : List ℕ) where
  pub one_page : LoadsPage cr4 r image gpa page n xs → LoadsPage cr4 r image gpa page n' xs' → (n ≡ n') × (xs ≡ xs')
  one_page a b = (a.number ∙ sym b.number, a.loaded ∙ sym b.loaded)

-- the answer, and the list
module _ (older newer : List ℕ) (room : ℕ) (w w' xs xs' : List ℕ) where
  pub one_comparison : ComparesImages older newer room w xs → ComparesImages older newer room w' xs' → (w ≡ w') × (xs ≡ xs')
  one_comparison a b = (a.answered ∙ sym b.answered, a.listed ∙ sym b.listed)

-- ---- the number n that is returned, and the word w that is left
module _ {n n' w w' : ℕ} where
  one_left : (a : Answer) → Leaves a n w → Leaves a n' w' → (n ≡ n') × (w ≡ w')
  one_left a p q = (p.number ∙ sym q.number, p.word_is ∙ sym q.word_is)

  one_found : (o : Option ℕ) → Finds o n w → Finds o n' w' → (n ≡ n') × (w ≡ w')
  one_found o p q = (p.found ∙ sym q.found, p.value ∙ sym q.value)

  pub one_fresh : (e kind a : ℕ) → SetsFresh e kind a n w → SetsFresh e kind a n' w' → (n ≡ n') × (w ≡ w')
  one_fresh e kind a = one_left (fresh_of kind e a)

  pub one_addr : (e a : ℕ) → SetsAddr e a n w → SetsAddr e a n' w' → (n ≡ n') × (w ≡ w')
  one_addr e a = one_left (set_address e a)

  pub one_read : (e : ℕ) → ReadsAddr e n w → ReadsAddr e n' w' → (n ≡ n') × (w ≡ w')
  one_read e = one_found (read_address e)

  pub one_leaf_addr : (e level a : ℕ) → SetsLeafAddr e level a n w → SetsLeafAddr e level a n' w' → (n ≡ n') × (w ≡ w')
  one_leaf_addr e level a = one_left (set_leaf_address level e a)

  pub one_leaf_read : (e level : ℕ) → ReadsLeafAddr e level n w → ReadsLeafAddr e level n' w' → (n ≡ n') × (w ≡ w')
  one_leaf_read e level p q = (p.told ∙ sym q.told, p.value ∙ sym q.value)

  pub one_size : (level : ℕ) → SizesLevel level n w → SizesLevel level n' w' → (n ≡ n') × (w ≡ w')
  one_size level = one_left (mapped_size level)

  pub one_level_index : (gva level : ℕ) → IndexesLevel gva level n w → IndexesLevel gva level n' w' → (n ≡ n') × (w ≡ w')
  one_level_index gva level = one_left (level_index level gva)

  pub one_table : (r : Region) (a : ℕ) → FindsTable r a n w → FindsTable r a n' w' → (n ≡ n') × (w ≡ w')
  one_table r a = one_found (table_in r a)

pub one_present : (e n n' : ℕ) → FlagsPresent e n → FlagsPresent e n' → n ≡ n'
one_present e n n' p q = p ∙ sym q

pub one_large : (e n n' : ℕ) → FlagsLarge e n → FlagsLarge e n' → n ≡ n'
one_large e n n' p q = p ∙ sym q

pub one_cleared : (w w' : ℕ) → ClearsWord w → ClearsWord w' → w ≡ w'
one_cleared w w' p q = p ∙ sym q

pub one_interface : (n n' : ℕ) → NamesInterface n → NamesInterface n' → n ≡ n'
one_interface n n' p q = p ∙ sym q

-- the count, and the array
module _ (mask n n' : ℕ) (xs xs' : List ℕ) where
  pub one_masks : SplitsInto mask n xs → SplitsInto mask n' xs' → (n ≡ n') × (xs ≡ xs')
  one_masks p q = (p.count_is ∙ sym q.count_is, p.bits_are ∙ sym q.bits_are)
