-- The starred examples of the specification, section 12, as a list, and the test that one holds.
-- Assumes nothing.
use Rattle.std.specs.Prelude.{Bool, true, false, ◌&&◌, List, [], ◌∷◌, ℕ, zero, suc, ◌+◌, ◌-◌, ◌*◌, ◌/◌, ◌^◌, eqb, Option, None, Some}
use Rattle.definitions.specs.Words.{Mem, blank, put, slot}
use Rattle.definitions.specs.Geometry.{indices}
use Rattle.definitions.specs.Entry.{Answer, answer_if, translate, set_leaf_address, Reading, read_leaf_address}
use Rattle.definitions.specs.Inputs.{Job, Place, nowhere, Report, Built}
use Rattle.definitions.specs.Build.{refused, build}
use Rattle.definitions.specs.Compare.{Compared, not_compared, compare}

-- ---- equality tests

unfoldable pub same_place : Place → Place → Bool
same_place p q = eqb p.address q.address && eqb p.level q.level && eqb p.offset q.offset

unfoldable pub same_report : Report → Report → Bool
unfolding same_place
same_report r s =
    eqb r.number s.number && eqb r.used s.used && eqb r.moved s.moved
    && eqb r.merged s.merged && eqb r.reached s.reached && same_place r.place s.place

-- n words from word k on
unfoldable pub same_words : ℕ → ℕ → Mem → Mem → Bool
same_words zero k m n = true
same_words (suc c) k m n = eqb (m k) (n k) && same_words c (suc k) m n

unfoldable pub same_list : List ℕ → List ℕ → Bool
same_list [] [] = true
same_list [] (y ∷ ys) = false
same_list (x ∷ xs) [] = false
same_list (x ∷ xs) (y ∷ ys) = eqb x y && same_list xs ys

unfoldable pub same_built : ℕ → Built → Built → Bool
unfolding same_report same_words
same_built n b c = same_report b.report c.report && same_words n 0 b.output c.output

unfoldable pub same_compared : Compared → Compared → Bool
unfolding same_list
same_compared c d =
    eqb c.number d.number && eqb c.count d.count && same_list c.list d.list
    && eqb c.start d.start && eqb c.size d.size

unfoldable pub same_answer : Answer → Answer → Bool
same_answer a b = eqb a.number b.number && eqb a.word b.word

unfoldable pub same_found : Option ℕ → Option ℕ → Bool
same_found None None = true
same_found None (Some y) = false
same_found (Some x) None = false
same_found (Some x) (Some y) = eqb x y

unfoldable pub same_reading : Reading → Reading → Bool
unfolding same_found
same_reading r s = eqb r.number s.number && same_found r.found s.found

-- ---- the examples

-- a job that is to give a report and an output, compared in every word of the region; an address that is to have
-- these indices, level 0 first; a leaf, by level and entry, whose address is set so, is read so, or that translates an address
-- so; two images, by length and words, and a room that are to be compared so
pub data Example : Type 0 where
  builds : Job → Built → Example
  has_indices : ℕ → List ℕ → Example
  sets_leaf : ℕ → ℕ → ℕ → Answer → Example
  reads_leaf : ℕ → ℕ → Reading → Example
  translates : ℕ → ℕ → ℕ → ℕ → Example
  compares : ℕ → Mem → ℕ → Mem → ℕ → Compared → Example

unfoldable pub holds : Example → Bool
unfolding same_built same_list same_answer same_reading same_compared
holds (builds j c) = same_built (j.region.size / 8) (build j) c
holds (has_indices a xs) = same_list (indices a) xs
holds (sets_leaf l e a b) = same_answer (set_leaf_address l e a) b
holds (reads_leaf l e r) = same_reading (read_leaf_address l e) r
holds (translates l e a b) = eqb (translate l e a) b
holds (compares a older b newer room c) = same_compared (compare a older b newer room) c

unfoldable pub all_hold : List Example → Bool
all_hold [] = true
all_hold (x ∷ xs) = holds x && all_hold xs

unfoldable pub base : Mem
base = put (put (put blank (slot 0 0) 0x101023) (slot 1 0) 0x102023) (slot 2 1) 0x2000E3

-- the base's region and table offset, with a used length, registers, the words of the ranges, a size, and an image
unfoldable pub job_by : ℕ → ℕ → ℕ → List ℕ → ℕ → Mem → Job
job_by used cr3 cr4 words size m = record {
  region = record { gpa = 0x100000; size = size; used = used };
  cr3 = cr3;
  cr4 = cr4;
  table_offset = 0;
  words = words;
  image_length = used;
  image = m;
  output_length = size;
  scratch_length = 6;
}

unfoldable pub job_with : List ℕ → ℕ → Mem → Job
unfolding job_by
job_with words size m = job_by 0x3000 0x100000 0 words size m

-- with the last address and the offset of one range
unfoldable pub job_to : ℕ → ℕ → ℕ → Mem → Job
unfolding job_with
job_to last size o m = job_with (0x200000 ∷ last ∷ o ∷ []) size m

unfoldable pub job : ℕ → ℕ → Mem → Job
unfolding job_to
job size o m = job_to 0x3FFFFF size o m

-- accepted: tables reached, used, moved, merged, and the output
unfoldable pub yields_of : ℕ → ℕ → ℕ → ℕ → Mem → Built
yields_of reached used moved merged m = record {
  report = record { number = 0; used = used; moved = moved; merged = merged; reached = reached; place = nowhere };
  output = m;
}

unfoldable pub yields : ℕ → ℕ → ℕ → Mem → Built
unfolding yields_of
yields used moved merged m = yields_of 3 used moved merged m

-- refused: number, address, level, offset
unfoldable pub refuses : ℕ → ℕ → ℕ → ℕ → Built
refuses n a l o = refused n (record { address = a; level = l; offset = o })

-- §12.17: two leaves, of which the first is to move beyond the second; at both new places stands another
unfoldable pub crossing : Job
unfolding job_with
crossing =
    job_with (0x200000 ∷ 0x3FFFFF ∷ 0x600000 ∷ 0x400000 ∷ 0x5FFFFF ∷ 0x200000 ∷ []) 0x8000
    (put (put (put base (slot 2 2) 0x4000E3) (slot 2 3) 0x6000E1) (slot 2 4) 0x8000E1)

-- the base under a level-4 root, table 3
unfoldable pub base₅ : Mem
unfolding base
base₅ = put base (slot 3 0) 0x100023

unfoldable pub job_to₅ : ℕ → ℕ → ℕ → ℕ → Mem → Job
unfolding job_by
job_to₅ used cr3 size o m = job_by used cr3 0x1000 (0x200000 ∷ 0x3FFFFF ∷ o ∷ []) size m

unfoldable pub job₅ : ℕ → ℕ → Mem → Job
unfolding job_to₅
job₅ size o m = job_to₅ 0x4000 0x103000 size o m

-- accepted, the leaf moved: used, and the output but for the place that the leaf leaves
unfoldable pub yields₅ : ℕ → Mem → Built
unfolding yields_of
yields₅ used m = yields_of 4 used 1 0 (put m (slot 2 1) 0)

-- §12.30: a 1 GiB leaf at 2^52
unfoldable pub far_leaf : Mem
unfolding base₅
far_leaf = put (put (put base₅ (slot 3 16) 0x104023) (slot 4 0) 0x105023) (slot 5 0) 0xE3

-- ---- bits below a leaf's field

-- the base with another leaf at 0x200000, and the job that moves it up by 0x200000
unfoldable pub base_of : ℕ → Mem
unfolding base
base_of e = put base (slot 2 1) e

unfoldable pub raising : Mem → Job
unfolding job
raising m = job 0x8000 0x200000 m

-- accepted, with this entry at the new place: merged
unfoldable pub yields_leaf : ℕ → ℕ → Built
unfolding yields base_of
yields_leaf merged e = yields 0x3000 1 merged (put (base_of 0) (slot 2 2) e)

-- §12.41: a 1 GiB leaf at 0x40000000, and the job that moves it up by as much
unfoldable pub largest : Job
unfolding job_with base
largest = job_with (0x40000000 ∷ 0x7FFFFFFF ∷ 0x40000000 ∷ []) 0x8000 (put base (slot 1 1) 0x600000E3)

-- ---- comparisons

-- what becomes of the base in §12.2
unfoldable pub moved_base : Mem
unfolding base
moved_base = put (put base (slot 2 1) 0) (slot 2 2) 0x4000E3

-- accepted: the count, the list, and where the first page that differs begins
unfoldable pub finds : ℕ → List ℕ → ℕ → Compared
finds n ws from = record { number = 0; count = n; list = ws; start = from; size = 4096 }

unfoldable pub finds_none : List ℕ → Compared
finds_none ws = record { number = 0; count = 0; list = ws; start = 0; size = 0 }

-- §12.1 to §12.11 and §12.15; then the order of refusals, §12.16 to §12.19; §12.20, since nothing may be put in while pass 1
-- still runs (§13.2); five levels, §12.21 to §12.30; bits below a leaf's field, §12.40 to §12.50; and comparisons, §12.31 to §12.39
unfoldable pub examples : List Example
unfolding crossing far_leaf base₅ base_of raising yields_leaf largest moved_base
examples =
    builds (job 0x8000 0x1FF000 base) (yields 0x3000 0 0 base)
    ∷ builds (job 0x8000 0x200000 base) (yields 0x3000 1 0 moved_base)
    ∷ builds (job 0x8000 0x201000 base) (refuses 12 0x200000 1 0x201000)
    ∷ builds (job 0x8000 0x40000000 base)
    (yields 0x4000 1 0 (put (put (put base (slot 2 1) 0) (slot 1 1) 0x103023) (slot 3 1) 0x402000E3))
    ∷ builds (job 0x3000 0x40000000 base) (refuses 19 0x40200000 2 0)
    ∷ builds (job 0x8000 (2 ^ 64 - 0x200000) base) (yields 0x3000 1 0 (put (put base (slot 2 1) 0) (slot 2 0) 0xE3))
    ∷ builds (job 0x8000 (2 ^ 64 - 0x400000) base) (refuses 13 0x200000 1 (2 ^ 64 - 0x400000))
    ∷ builds (job 0x8000 0x200000 (put base (slot 2 2) 0x4000E3))
    (yields 0x3000 1 1 moved_base)
    ∷ builds (job 0x8000 0x200000 (put base (slot 2 2) 0x4000E1)) (refuses 18 0x400000 1 0)
    ∷ builds (job 0x8000 0x200000 (put base (slot 0 511) 0x100023)) (refuses 10 (511 * 2 ^ 39) 3 0)
    ∷ builds (job 0x8000 0x200000 (put base (slot 2 0) 0x103023)) (refuses 9 0 1 0)
    ∷ has_indices 0x603000 (3 ∷ 3 ∷ 0 ∷ 0 ∷ 0 ∷ [])
    ∷ builds (job 0x8000 0x201000 (put base (slot 0 511) 0x100023)) (refuses 12 0x200000 1 0x201000)
    ∷ builds crossing (refuses 18 0x600000 1 0)
    ∷ builds (job 0x3000 0x8000000000 base) (refuses 19 0x8000200000 3 0)
    ∷ builds (job 0x4000 0x8000000000 base) (refuses 19 0x8000200000 2 0)
    ∷ builds (job_to 0x5FFFFF 0x8000 0x200000 (put base (slot 2 2) 0x4000E3))
    (yields 0x3000 2 0 (put moved_base (slot 2 3) 0x6000E3))
    ∷ builds (job₅ 0x8000 0x200000 base₅) (yields₅ 0x4000 (put base₅ (slot 2 2) 0x4000E3))
    ∷ builds (job₅ 0x8000 (2 ^ 48) base₅)
    (yields₅ 0x7000 (put (put (put (put base₅ (slot 3 1) 0x104023) (slot 4 0) 0x105023) (slot 5 0) 0x106023) (slot 6 1) (2 ^ 48 + 0x2000E3)))
    ∷ builds (job₅ 0x4000 (2 ^ 48) base₅) (refuses 19 (2 ^ 48 + 0x200000) 4 0)
    ∷ builds (job_to₅ 0x4000 0x104000 0x8000 0x200000 base₅) (refuses 9 0 5 0)
    ∷ builds (job₅ 0x8000 (2 ^ 52 - 0x400000) base₅)
    (yields₅ 0x7000 (put (put (put (put base₅ (slot 3 15) 0x104023) (slot 4 511) 0x105023) (slot 5 511) 0x106023) (slot 6 511) (2 ^ 52 - 0x200000 + 0xE3)))
    ∷ builds (job₅ 0x8000 (2 ^ 52 - 0x200000) base₅) (refuses 13 0x200000 1 (2 ^ 52 - 0x200000))
    ∷ builds (job₅ 0x8000 0x200000 (put (put base₅ (slot 3 0) 0x1000A3) (slot 0 0) 0x1010A3))
    (yields₅ 0x4000 (put (put (put base₅ (slot 3 0) 0x1000A3) (slot 0 0) 0x1010A3) (slot 2 2) 0x4000E3))
    ∷ builds (job₅ 0x8000 (2 ^ 48) (put base₅ (slot 3 1) 0x200023)) (refuses 17 (2 ^ 48 + 0x200000) 4 0)
    ∷ builds (job₅ 0x8000 0x200000 (put base₅ (slot 3 511) 0x107023)) (refuses 9 (511 * 2 ^ 48) 4 0)
    ∷ builds (job_to₅ 0x6000 0x103000 0x8000 0x200000 far_leaf) (yields_of 6 0x6000 1 0 (put (put far_leaf (slot 2 1) 0) (slot 2 2) 0x4000E3))
    ∷ builds (raising (base_of 0x3010E3)) (yields_leaf 0 0x5010E3)
    ∷ builds largest (yields 0x3000 1 0 (put base (slot 1 2) 0xA00000E3))
    ∷ builds (raising (put (base_of 0x2010E3) (slot 2 2) 0x4000E3)) (refuses 18 0x400000 1 0)
    ∷ builds (raising (put (base_of 0x2010E3) (slot 2 2) 0x4010E3)) (yields_leaf 1 0x4010E3)
    ∷ translates 1 0x3010E3 0x234567 0x234567
    ∷ sets_leaf 1 0x3010E3 0x400000 (answer_if true 0x5010E3 0)
    ∷ sets_leaf 0 0x3010E3 0x400000 (answer_if true 0x4000E3 0)
    ∷ sets_leaf 1 0x3010E3 0x401000 (answer_if false 0 0x3010E3)
    ∷ sets_leaf 3 0x3010E3 0x8000000000 (answer_if false 0 0x3010E3)
    ∷ reads_leaf 1 0x3010E3 (record { number = 0; found = Some 0x200000 })
    ∷ reads_leaf 3 0 (record { number = 20; found = None })
    ∷ compares 0x3000 base 0x3000 moved_base 9 (finds 2 (2 ∷ 1 ∷ 0x2000E3 ∷ 0 ∷ 2 ∷ 2 ∷ 0 ∷ 0x4000E3 ∷ 0 ∷ []) 0x2000)
    ∷ compares 0x3000 base 0x3000 moved_base 7 (not_compared 15 7)
    ∷ compares 0x3000 base 0x4000 moved_base 7 (not_compared 34 7)
    ∷ compares 0x3001 base 0x3001 base 2 (not_compared 34 2)
    ∷ compares 0x201000 base 0x201000 base 2 (not_compared 34 2)
    ∷ compares 0x3000 base 0x3000 base 3 (finds_none (0 ∷ 0 ∷ 0 ∷ []))
    ∷ compares 0 base 0 moved_base 0 (finds_none [])
    ∷ compares 0x3000 (put base (slot 0 511) 7) 0x3000 (put base (slot 1 0) 0x102022) 8
    (finds 2 (0 ∷ 511 ∷ 7 ∷ 0 ∷ 1 ∷ 0 ∷ 0x102023 ∷ 0x102022 ∷ []) 0)
    ∷ compares 0x3000 base 0x3000 (put base (slot 2 511) (2 ^ 63)) 4 (finds 1 (2 ∷ 511 ∷ 0 ∷ 2 ^ 63 ∷ []) 0x2000)
    ∷ []
