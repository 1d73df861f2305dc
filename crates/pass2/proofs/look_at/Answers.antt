-- `pass2::look_at` meets its contract: three tests of the entry in a row (present, a pointer, into the region), each of which
-- ends the look where it fails. No loop.
-- Assumes nothing.
use mathlib.Core.Path.{sym, ap, ◌∙◌}
use Rattle.definitions.specs.Ranges.{table_in}
use Rattle.pass2.proofs.Cases.{is_large, is_outside, is_known}
use Rattle.pass2.proofs.look_at.Goals as goal

-- ---- the goals
pub returns-then-not-points_to_table : goal.returns-then-not-points_to_table
returns-then-not-points_to_table c =
    is_large c.read_word-there.ensures (sym c.is_present.ensures ∙ c.if-not-is_present.false)
    (sym c.points_to_table.ensures ∙ c.if-not-points_to_table.true) c.at.ensures

pub returns : goal.returns
returns c =
    is_known c.read_word-there.ensures (sym c.is_present.ensures ∙ c.if-not-is_present.false)
    (sym c.points_to_table.ensures ∙ c.if-not-points_to_table.false) c.requires.1
    (c.in-Some.ensures ∙ ap (table_in c.args.new) c.address.ensures)

pub returns-in_default : goal.returns-in_default
returns-in_default c =
    is_outside c.read_word-there.ensures (sym c.is_present.ensures ∙ c.if-not-is_present.false)
    (sym c.points_to_table.ensures ∙ c.if-not-points_to_table.false)
    (c.in_default.ensures ∙ ap (table_in c.args.new) c.address.ensures) c.at-in_default.ensures
