-- `Guide::task_at` meets its contract: two tests of the entry, and for a leaf what `lookup` says. No loop.
-- What the tests gave is told at the place past each; the laws of Moving turn it into the act.
-- Assumes nothing.
use Rattle.pass1.proofs.Moving.{looks_fit, told_absent, told_stay, told_by}
use Rattle.definitions.specs.Entry.{present}
use Rattle.std.proofs.Common.{◌≡◌, true, sym, ◌∙◌}
use Rattle.pass1.proofs.Guide.task_at.Goals as goal

-- ---- the goals
pub returns-then-not-is_present : goal.returns-then-not-is_present
returns-then-not-is_present c =
    let a = c.args in
    told_absent a.self.plan a.self.ranges.now a.spot (sym c.is_present.ensures ∙ c.if-not-is_present.true)

pub returns-then-points_to_table : goal.returns-then-points_to_table
returns-then-points_to_table c =
    let here : present c.args.spot.entry ≡ true = sym c.is_present.ensures ∙ c.if-not-is_present.false in
    record { here = here; points = sym c.points_to_table.ensures ∙ c.if-points_to_table.true }

pub lookup-requires : goal.lookup-requires
lookup-requires c = looks_fit c.args.self.ranges.now c.args.self.plan c.args.spot c.requires

pub returns-in-None : goal.returns-in-None
returns-in-None c =
    told_stay _ _ c.args.spot (sym c.is_present.ensures ∙ c.if-not-is_present.false) (sym c.points_to_table.ensures ∙ c.if-points_to_table.false)
    c.requires.size _ c.lookup.ensures c.in-None.is

pub returns-in-Some : goal.returns-in-Some
returns-in-Some c =
    told_by _ _ c.args.spot (sym c.is_present.ensures ∙ c.if-not-is_present.false) (sym c.points_to_table.ensures ∙ c.if-points_to_table.false)
    c.requires.size _ c.lookup.ensures _ c.in-Some.is
