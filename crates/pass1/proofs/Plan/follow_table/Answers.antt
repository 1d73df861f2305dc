-- `Plan::follow_table` meets its contract: a free or a reached table is refused, else the entry is written and the table marked.
-- No loop.
-- What the code found is told at the place past each test; the laws of Pointing turn it into the act.
-- Assumes nothing.
use Rattle.pass1.proofs.Pointing.{opens_free, opens_again, opens_down, to_fits}
use Rattle.reached.proofs.Laws.{marked_low}
use Rattle.std.proofs.Common.{ℕ, ◌+◌, ◌%◌, ◌^◌, sym, refl, ap, ◌∙◌, arith}
use Rattle.definitions.specs.Entry.{address}
use Rattle.pass1.specs.declared.Plan.{Plan}
use Rattle.pass1.specs.declared.Spot.{Spot}
use Rattle.pass1.specs.Walks.{Points, OpenFits}
use Rattle.pass1.proofs.Plan.follow_table.Goals as goal

module _ {n : ℕ} {p : Plan} {x : Spot} (fits : OpenFits n p x) where
  points : Points x (address x.entry)
  points = record { pointer = fits.pointer; target = refl }

-- ---- the goals
pub returns-then-self-next : goal.returns-then-self-next
returns-then-self-next c = opens_free (points c.requires.open_fits) c.requires.found c.if-self-next.true c.at.ensures

pub returns-then-mark_and_ask : goal.returns-then-mark_and_ask
returns-then-mark_and_ask c =
    let was = sym c.mark_and_ask.ensures.1 ∙ c.if-mark_and_ask.true in
    opens_again (points c.requires.open_fits) c.requires.found c.if-self-next.false was c.at-then-mark_and_ask.ensures

pub with_address-word-requires : goal.with_address-word-requires
with_address-word-requires c =
    let p = c.requires in
    to_fits p.open_fits.plan (points p.open_fits) p.found
    (ap (λ (a : ℕ). (a + c.args.self.offset) % 2 ^ 64) c.address-target.ensures)

pub returns : goal.returns
returns c =
    let p = c.requires in
    let was = sym c.mark_and_ask.ensures.1 ∙ c.if-mark_and_ask.false in
    let marked = c.mark_and_ask.ensures.0 ∙ marked_low _ _ (omega arith) in
    let to = ap (λ (a : ℕ). (a + c.args.self.offset) % 2 ^ 64) c.address-target.ensures in
    opens_down (points p.open_fits) p.found c.if-self-next.false was
    to c.with_address-word.ensures c.write_word.ensures.0 marked
