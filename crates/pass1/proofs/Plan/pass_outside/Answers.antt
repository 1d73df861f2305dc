-- `Plan::pass_outside` meets its contract: one look into the moved region, which refuses or leaves the entry. No loop.
-- Assumes nothing.
use Rattle.pass1.proofs.Pointing.{opens_moved, opens_outside}
use Rattle.std.proofs.Common.{sym, ◌∙◌}
use Rattle.pass1.proofs.Plan.pass_outside.Goals as goal

pub returns-in-Some : goal.returns-in-Some
returns-in-Some c m w =
    opens_moved c.requires.0 c.requires.1 (sym c.calculate_page_table_index.ensures ∙ c.in-Some.is) c.at.ensures

pub returns-in-None : goal.returns-in-None
returns-in-None c m w =
    opens_outside c.requires.0 c.requires.1 (sym c.calculate_page_table_index.ensures ∙ c.in-None.is)
