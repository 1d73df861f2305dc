-- What a caller of the exported functions may rely on, all together: of any report, output and scratch that a call of
-- `archwend_build` leaves by its promise (`Answers`), and of any number and image that `archwend_set_page_data` leaves by its
-- own (`LoadsPage`). The words are those of definitions/specs: Demand.antt, Conditions.antt, Order.antt and Walk.antt. Builds on
-- demands (Exact, First, Main, Bytes) and on the laws of definitions (Cr4, Build, LoadEnds).
-- `archwend_build` is lent the image and the ranges to read only: its type says so, and there is nothing to prove.
-- Assumes nothing.
use mathlib.Core.Path.{◌≡◌, refl, sym, ap, ◌∙◌}
use mathlib.Core.List.{List, Memᴰ}
use mathlib.Core.Logic.{◌⊎◌, ⊎_elim, ◌↔◌}
use Prim.Native.Nat.{ℕ, suc, ◌+◌, ◌-◌, ◌*◌, ◌/◌, ◌%◌, ◌^◌, ◌≤◌, ◌<◌}
use native.Mathlib.Omega.{arith}
use lib.ListN.{length, get_or, replicate, length-replicate}
use Rattle.definitions.specs.Words.{slot, words_of, bytes_of}
use Rattle.definitions.specs.Geometry.{root_height, span}
use Rattle.definitions.specs.Entry.{leaf_flags, translate}
use Rattle.definitions.specs.Inputs.{Job, nowhere, Report, Built}
use Rattle.definitions.specs.Ranges.{kind, moved_region, table_at, used_tables}
use Rattle.definitions.specs.Build.{five_bit, geometry_of, root, plan_of, build, refused, job_of, output_bytes}
use Rattle.definitions.specs.Load.{Loaded, loaded, load}
use Rattle.definitions.specs.Walk.{End, nothing, wild, in_leaf, reads, walk}
use Rattle.definitions.specs.Demand.{Proper, Walked, before, after, reads_after, IsRead, Reached, Moves, MovedBy, Stays, Lands, Clear, entry_before}
use Rattle.definitions.specs.Demand.{Grown, LeafCount, MergeCount, TableCount, Written, Became, Rebuilt}
use Rattle.definitions.specs.Conditions.{BadInput, Condition, None, Given}
use Rattle.definitions.specs.Order.{InOrder}
use Rattle.definitions.specs.declared.paging.Geometry.{Geometry}
use Rattle.definitions.specs.declared.Moved.{Moved}
use Rattle.definitions.specs.declared.Place.{Place}
use Rattle.definitions.specs.declared.Region.{Region}
use Rattle.definitions.proofs.Words.{Bytes}
use Rattle.definitions.proofs.Entry.{leaf_flags_bits}
use Rattle.definitions.proofs.Cr4.{with_cr4, five_walked, four_walked, by_geometry, one_bit}
use Rattle.definitions.proofs.Build.{job_proper, output_refused}
use Rattle.definitions.proofs.LoadEnds.{PutIn, LoadEnds, load_ends, put_length, put_inside, put_elsewhere}
use Rattle.demands.proofs.Both.Bridge.{old}
use Rattle.demands.proofs.Exact.{exact, accepted_iff}
use Rattle.demands.proofs.First.{in_order}
use Rattle.demands.proofs.Main.{rebuilt}
use Rattle.demands.proofs.Bytes.{output_length_lem, words_in, after_in, reads_in_lem, used_whole, used_inside}
use Rattle.archwend.specs.Exports.{region_at, report_words, Answers, LoadsPage}

-- ---- what a call of `archwend_build` is given: numbers and buffers, of bytes below 256 and words below 2^64. Of the region's
-- numbers, cr4 and the lengths nothing is asked
pub record Call : Type 0 where
  pub image : List ℕ
  pub ranges : List ℕ
  pub gpa : ℕ
  pub size : ℕ
  pub used : ℕ
  pub cr3 : ℕ
  pub cr4 : ℕ
  pub table_offset : ℕ
  pub output_length : ℕ
  pub scratch_length : ℕ
  pub image_fits : Bytes image
  pub ranges_fit : (i : ℕ) → get_or ranges i 0 < 2 ^ 64
  pub cr3_fits : cr3 < 2 ^ 64
  pub offset_fits : table_offset < 2 ^ 64

-- its region, and its job, as the promise has them
abbrev pub region_of : Call → Region
region_of c = region_at c.gpa c.size c.used

abbrev pub asked : Call → Job
asked c = job_of (region_of c) c.cr3 c.cr4 c.table_offset c.ranges c.image c.output_length c.scratch_length

-- ---- the report's words, as a caller reads them
abbrev pub number_read : List ℕ → ℕ
number_read report = get_or report 0 0

abbrev pub used_read : List ℕ → ℕ
used_read report = get_or report 1 0

abbrev pub moved_read : List ℕ → ℕ
moved_read report = get_or report 2 0

abbrev pub merged_read : List ℕ → ℕ
merged_read report = get_or report 3 0

abbrev pub reached_read : List ℕ → ℕ
reached_read report = get_or report 4 0

abbrev pub place_read : List ℕ → Place
place_read report = record { address = get_or report 5 0; level = get_or report 6 0; offset = get_or report 7 0 }

abbrev pub report_read : List ℕ → Report
report_read report = record {
  number = number_read report;
  used = used_read report;
  moved = moved_read report;
  merged = merged_read report;
  reached = reached_read report;
  place = place_read report;
}

-- ---- walks: the table of the root, how many levels there are, and the region as it is moved
abbrev pub root_of : Call → ℕ
root_of c = table_at (region_of c) c.cr3

abbrev pub height_of : Call → ℕ
height_of c = root_height (geometry_of c.cr4)

abbrev pub new_region : Call → Region
new_region c = moved_region (region_of c) c.table_offset

-- how the walk of address a ends in the image lent
abbrev pub walk_before : Call → ℕ → End
walk_before c a = walk (kind (region_of c)) (height_of c) (words_of c.image) (root_of c) a

-- and in bytes that are read as the tables of the moved region, from the moved root: the table of the same number
abbrev pub walk_in : Call → List ℕ → ℕ → End
walk_in c bytes a = walk (kind (new_region c)) (height_of c) (words_of bytes) (root_of c) a

-- which tables it reads there
abbrev pub reads_in : Call → List ℕ → ℕ → List ℕ
reads_in c bytes a = reads (kind (new_region c)) (height_of c) (words_of bytes) (root_of c) a

-- ---- the levels, by bit 0x1000 of cr4: a walk reads at most so many tables (walk_short), and these addresses are walked
pub walked_five :
    (c : Call)
    → five_bit c.cr4 ≡ 1
    → (height_of c ≡ 5) × ((a : ℕ) → Walked (asked c) a ↔ (a < 2 ^ 57))
unfolding job_of
walked_five c = five_walked (asked c)

pub walked_four :
    (c : Call)
    → ¬ (five_bit c.cr4 ≡ 1)
    → (height_of c ≡ 4) × ((a : ℕ) → Walked (asked c) a ↔ (a < 2 ^ 48))
unfolding job_of
walked_four c = four_walked (asked c)

-- no other bit of cr4 changes what is left: of a job, and of the same job with another cr4
pub build_by_bit :
    (j : Job) (cr4 : ℕ) (report report' output output' scratch scratch' : List ℕ)
    → five_bit j.cr4 ≡ five_bit cr4
    → Answers j report output scratch
    → Answers (with_cr4 j cr4) report' output' scratch'
    → (report ≡ report') × (output ≡ output') × (scratch ≡ scratch')
unfolding output_bytes
build_by_bit j cr4 report report' output output' scratch scratch' bit a b =
    let e = by_geometry j cr4 (one_bit j.cr4 cr4 bit) in (
      a.reported ∙ ap (λ (x : Built). report_words x.report) e ∙ sym b.reported,
      a.built ∙ ap (λ (x : Built). bytes_of j.output_length x.output) e ∙ sym b.built,
      a.cleared ∙ sym b.cleared,
    )

pub load_by_bit :
    (cr4 cr4' : ℕ) (r : Region) (image : List ℕ) (gpa : ℕ) (page : List ℕ) (n n' : ℕ) (after after' : List ℕ)
    → five_bit cr4 ≡ five_bit cr4'
    → LoadsPage cr4 r image gpa page n after
    → LoadsPage cr4' r image gpa page n' after'
    → (n ≡ n') × (after ≡ after')
load_by_bit cr4 cr4' r image gpa page n n' after after' bit a b =
    let e = ap (λ (g : Geometry). load g r image gpa page) (one_bit cr4 cr4' bit) in
    (a.number ∙ ap (λ (l : Loaded). l.number) e ∙ sym b.number, a.loaded ∙ ap (λ (l : Loaded). l.image) e ∙ sym b.loaded)

-- ---- for the proofs
proper : (c : Call) → Proper (asked c)
proper c =
    job_proper (region_of c) c.cr3 c.cr4 c.table_offset c.ranges c.image c.output_length c.scratch_length
    c.image_fits c.ranges_fit c.cr3_fits c.offset_fits

before_is : (c : Call) (a : ℕ) → before (asked c) a ≡ walk_before c a
unfolding before job_of root
before_is c a = refl

-- ---- `archwend_build`: any call, and what it leaves by its promise
module _
    (c : Call)
    (report output scratch : List ℕ)
    (answers : Answers (asked c) report output scratch)
  where
    -- ---- for the proofs
    number_is : (build (asked c)).report.number ≡ number_read report
    number_is = sym (ap number_read answers.reported)

    used_is : (build (asked c)).report.used ≡ used_read report
    used_is = sym (ap used_read answers.reported)

    place_is : (build (asked c)).report.place ≡ place_read report
    place_is = sym (ap place_read answers.reported)

    no_zero : ¬ (number_read report ≡ 0) → ¬ ((build (asked c)).report.number ≡ 0)
    no_zero no_ok e = no_ok (sym number_is ∙ e)

    empty : ¬ (number_read report ≡ 0) → build (asked c) ≡ refused (build (asked c)).report.number (build (asked c)).report.place
    empty no_ok = (exact (asked c) (proper c)).empty (no_zero no_ok)

    after_is : number_read report ≡ 0 → (a : ℕ) → after (asked c) a ≡ walk_in c output a
    unfolding job_of plan_of root
    after_is ok a = after_in (asked c) (proper c) (number_is ∙ ok) output answers.built a

    reads_are : number_read report ≡ 0 → (a : ℕ) → reads_after (asked c) a ≡ reads_in c output a
    unfolding job_of plan_of root
    reads_are ok a = reads_in_lem (asked c) (proper c) (number_is ∙ ok) output answers.built a

    -- ---- accepted or refused

    -- the words read are the report that the definitions give
    pub report_read_lem :
        report_read report ≡ (build (asked c)).report
    report_read_lem = ap report_read answers.reported

    -- the report has eight words, and output and scratch are as long as they were
    pub lengths :
        (length report ≡ 8) × (length output ≡ c.output_length) × (length scratch ≡ c.scratch_length)
    unfolding job_of
    lengths = (
      ap length answers.reported,
      ap length answers.built ∙ output_length_lem (asked c),
      ap length answers.cleared ∙ length-replicate c.scratch_length 0,
    )

    -- every word of the scratch is 0
    pub scratch_zero :
        scratch ≡ replicate c.scratch_length 0
    unfolding job_of
    scratch_zero = answers.cleared

    -- the number is 0 exactly where no condition of refusal holds
    pub accepted_exactly :
        (number_read report ≡ 0) ↔ None (Condition (asked c))
    accepted_exactly = rw (sym number_is) (accepted_iff (asked c) (proper c))

    -- ---- refused

    -- a number that is not 0 has its condition, at the place
    pub refused_for :
        ¬ (number_read report ≡ 0)
        → Given (asked c) (number_read report) (place_read report)
    refused_for no_ok = rw (number_is, place_is) at ((exact (asked c) (proper c)).reason (no_zero no_ok))

    -- of the conditions of the inputs the lowest is given
    pub lowest_input :
        (n : ℕ) (q : Place)
        → BadInput (asked c) n q
        → number_read report ≤ n
    lowest_input n q b = rw number_is at ((exact (asked c) (proper c)).lowest n q b)

    -- the first that applies is given; the report of which this speaks is the one read (report_read_lem)
    pub first_given :
        InOrder (asked c)
    first_given = in_order (asked c) (proper c)

    -- every byte of the output is 0
    pub refused_output :
        ¬ (number_read report ≡ 0)
        → output ≡ replicate c.output_length 0
    unfolding job_of
    refused_output no_ok = answers.built ∙ output_refused (asked c) _ _ (empty no_ok)

    -- every word of the report but number and place is 0
    pub refused_report :
        ¬ (number_read report ≡ 0)
        → (used_read report ≡ 0) × (moved_read report ≡ 0) × (merged_read report ≡ 0) × (reached_read report ≡ 0)
    unfolding refused
    refused_report no_ok =
        let e : report_read report ≡ (refused (build (asked c)).report.number (build (asked c)).report.place).report =
        report_read_lem ∙ ap (λ (b : Built). b.report) (empty no_ok) in (
          ap (λ (r : Report). r.used) e,
          ap (λ (r : Report). r.moved) e,
          ap (λ (r : Report). r.merged) e,
          ap (λ (r : Report). r.reached) e,
        )

    -- ---- accepted: demand 3, in the bytes of the output

    -- the words of the place are 0
    pub accepted_place :
        number_read report ≡ 0
        → place_read report ≡ nowhere
    accepted_place ok = rw place_is at ((exact (asked c) (proper c)).placeless (number_is ∙ ok))

    -- the definitions' promise of walks, growth and counts holds
    pub demand_three :
        number_read report ≡ 0
        → Rebuilt (asked c)
    demand_three ok = rebuilt (asked c) (proper c) (number_is ∙ ok)

    -- and the words of which it speaks are the words of these bytes
    pub words_are :
        number_read report ≡ 0
        → (build (asked c)).output ≡ words_of output
    words_are ok = sym (words_in (asked c) (proper c) (number_is ∙ ok) output answers.built)

    -- a walk reads only tables that lie, whole, in the new used length
    pub walk_tables :
        number_read report ≡ 0
        → (a : ℕ)
        → Walked (asked c) a
        → (t : ℕ)
        → Memᴰ t (reads_in c output a)
        → 4096 * t + 4096 ≤ used_read report
    walk_tables ok a w t e =
        let h : 4096 * t < used_read report = rw used_is at ((demand_three ok).tables a w t (rw (reads_are ok a) e)) in
        let m : used_read report % 4096 ≡ 0 = rw used_is at (used_whole (asked c) (proper c) (number_is ∙ ok)) in
        omega arith

    -- the new used length is within the region, and that within the output
    pub used_fits :
        number_read report ≡ 0
        → (used_read report ≤ c.size) × (c.size ≤ c.output_length)
    unfolding job_of
    used_fits ok = let h = used_inside (asked c) (proper c) (number_is ∙ ok) in (rw used_is at h.0, h.1)

    -- a walk reads at most one table for each level
    pub walk_short :
        number_read report ≡ 0
        → (a : ℕ)
        → length (reads_in c output a) ≤ height_of c
    unfolding job_of
    walk_short ok a = rw (reads_are ok a) at ((demand_three ok).short a)

    -- and ends at no pointer to a table where no table can be
    pub walk_tame :
        number_read report ≡ 0
        → (a : ℕ)
        → Walked (asked c) a
        → ¬ (walk_in c output a ≡ wild)
    walk_tame ok a w e = (demand_three ok).tame a w (after_is ok a ∙ e)

    -- inside a moved leaf's new span it ends in that leaf, which translates the address to itself
    pub new_span :
        number_read report ≡ 0
        → (a b : ℕ) (x : Moved)
        → Moves (asked c) b x
        → x.address ≤ a
        → a < x.address + span x.level
        → (walk_in c output a ≡ in_leaf x.level x.entry) × (translate x.level x.entry a ≡ a)
    new_span ok a b x m low high =
        let l : Lands (asked c) a b x = record { leaf = m; low = low; high = high } in
        (sym (after_is ok a) ∙ (demand_three ok).landed a b x l, (demand_three ok).itself a b x l)

    -- the moved leaf has the level and the flag bits of the leaf in which the original walk ended, whose entry is e
    pub same_leaf :
        number_read report ≡ 0
        → (b : ℕ) (x : Moved)
        → Moves (asked c) b x
        → (e : ℕ) × (walk_before c b ≡ in_leaf x.level e) × (leaf_flags x.level x.entry ≡ leaf_flags x.level e)
    same_leaf ok b x m = (entry_before (asked c) b, sym (before_is c b) ∙ (demand_three ok).level b x m, (demand_three ok).flags b x m)

    -- so every bit outside its level's field is as it was: those from 52 up, and those below the field
    pub same_bits :
        number_read report ≡ 0
        → (b : ℕ) (x : Moved)
        → Moves (asked c) b x
        → (e : ℕ) × (walk_before c b ≡ in_leaf x.level e) × (x.entry / 2 ^ 52 ≡ e / 2 ^ 52) × (x.entry % span x.level ≡ e % span x.level)
    same_bits ok b x m =
        let s = same_leaf ok b x m in
        let bits = leaf_flags_bits x.level x.entry s.0 (old (asked c) b x m).low s.2 in
        (s.0, s.1, bits.0, bits.1)

    -- and its new span is the old one moved by the signed offset
    pub new_place :
        number_read report ≡ 0
        → (b : ℕ) (x : Moved)
        → Moves (asked c) b x
        → MovedBy (asked c) b x
    new_place ok = (demand_three ok).target

    -- elsewhere inside a moved leaf's old span a walk finds nothing
    pub old_span :
        number_read report ≡ 0
        → (a : ℕ) (x : Moved)
        → Moves (asked c) a x
        → Clear (asked c) a
        → walk_in c output a ≡ nothing
    old_span ok a x m free = sym (after_is ok a) ∙ (demand_three ok).left a x m free

    -- at every other address it ends as the original walk did
    pub other_address :
        number_read report ≡ 0
        → (a : ℕ)
        → Walked (asked c) a
        → Stays (asked c) a
        → Clear (asked c) a
        → walk_in c output a ≡ walk_before c a
    other_address ok a w stays free = sym (after_is ok a) ∙ (demand_three ok).same a w stays free ∙ before_is c a

    -- the used length grows by the tables that the moves need
    pub used_growth :
        number_read report ≡ 0
        → (g : Grown (asked c)) × (used_read report ≡ c.used + 4096 * length g.places)
    unfolding job_of
    used_growth ok = let g = (demand_three ok).growth in (g, sym used_is ∙ g.grown)

    -- the counts are those of the leaves that move, of those that stood at their new place, and of the tables that walks read
    pub counts :
        number_read report ≡ 0
        → ((l : LeafCount (asked c)) × (moved_read report ≡ length l.leaves))
        × ((m : MergeCount (asked c)) × (merged_read report ≡ length m.leaves))
        × ((t : TableCount (asked c)) × (reached_read report ≡ length t.tables))
    counts ok =
        let d = demand_three ok in (
          (d.moved, ap moved_read answers.reported ∙ d.moved.counted),
          (d.merged, ap merged_read answers.reported ∙ d.merged.counted),
          (d.reached, ap reached_read answers.reported ∙ d.reached.counted),
        )

    -- a used table that no walk of the image reads is in the output word for word
    pub unread_table :
        number_read report ≡ 0
        → (t i : ℕ)
        → t < used_tables (region_of c)
        → ¬ IsRead (asked c) t
        → i < 512
        → words_of output (slot t i) ≡ words_of c.image (slot t i)
    unfolding job_of
    unread_table ok t i low unread h = rw (words_are ok) at ((demand_three ok).untouched.unread t i low unread h)

    -- every entry of a table that is reached has become what the passes make of it
    pub reached_entry :
        number_read report ≡ 0
        → (t l p i : ℕ)
        → Reached (asked c) t (suc l) p
        → i < 512
        → Became (asked c) l (p * 512 + i) (words_of c.image (slot t i)) (words_of output (slot t i))
    unfolding job_of
    reached_entry ok t l p i w h = rw (words_are ok) at ((demand_three ok).untouched.entries t l p i w h)

    -- every word of a table that was free is zero or written for a move
    pub free_word :
        number_read report ≡ 0
        → (k : ℕ)
        → c.used ≤ 8 * k
        → (words_of output k ≡ 0) ⊎ ((l : ℕ) × (p : ℕ) × Written (asked c) l p (words_of output k))
    unfolding job_of
    free_word ok k h = rw (words_are ok) at ((demand_three ok).untouched.fresh k h)

    -- past the new used length all is zero
    pub past_used :
        number_read report ≡ 0
        → (k : ℕ)
        → used_read report ≤ 8 * k
        → words_of output k ≡ 0
    past_used ok k h = rw (words_are ok) at ((demand_three ok).untouched.zeros k (rw used_is h))

-- ---- `archwend_set_page_data`: any call, and what it leaves by its promise
module _
    (cr4 : ℕ)
    (r : Region)
    (image : List ℕ)
    (gpa : ℕ)
    (page : List ℕ)
    (n : ℕ)
    (after : List ℕ)
    (loads : LoadsPage cr4 r image gpa page n after)
  where
    -- ---- for the proofs
    ends : LoadEnds r image gpa page (loaded n after)
    ends = rw (loads.number, loads.loaded) (load_ends (geometry_of cr4) r image gpa page)

    put_in : n ≡ 0 → ¬ (length page ≡ 0) → PutIn r image gpa page after
    put_in ok some = ⊎_elim (λ z. absurd (z.0 ok)) (⊎_elim (λ z. absurd (some z.1)) (λ z. z.1)) ends

    -- ---- the image afterwards

    -- refused: the image is as it was
    pub refused_load :
        ¬ (n ≡ 0)
        → after ≡ image
    refused_load no_ok = ⊎_elim (λ z. z.1) (⊎_elim (λ z. absurd (no_ok z.0)) (λ z. absurd (no_ok z.0))) ends

    -- accepted without a page: the image is as it was
    pub empty_load :
        n ≡ 0
        → length page ≡ 0
        → after ≡ image
    empty_load ok none = ⊎_elim (λ z. z.1) (⊎_elim (λ z. z.2) (λ z. absurd (omega (arith, z.1.whole)))) ends

    -- accepted with a page: it is a whole one, within the image, which is as long as it was
    pub page_fits :
        n ≡ 0
        → ¬ (length page ≡ 0)
        → (length page ≡ 4096) × (r.gpa ≤ gpa) × (gpa - r.gpa + 4096 ≤ length image) × (length after ≡ length image)
    page_fits ok some = let p = put_in ok some in (p.whole, p.low, p.high, put_length p)

    -- its bytes stand there
    pub page_there :
        n ≡ 0
        → ¬ (length page ≡ 0)
        → (i : ℕ)
        → i < 4096
        → get_or after (gpa - r.gpa + i) 0 ≡ get_or page i 0
    page_there ok some = put_inside (put_in ok some)

    -- and every other byte is as it was
    pub page_alone :
        n ≡ 0
        → ¬ (length page ≡ 0)
        → (i : ℕ)
        → (i < gpa - r.gpa) ⊎ (gpa - r.gpa + 4096 ≤ i)
        → get_or after i 0 ≡ get_or image i 0
    page_alone ok some = put_elsewhere (put_in ok some)
