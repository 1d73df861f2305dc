-- `archwend_set_entry` meets its contract: it is `fresh`, whose answer is left. No loop.
-- Assumes nothing.
use Rattle.std.proofs.Common.{rules}
use Rattle.archwend.proofs.entries.archwend_set_entry.Goals as goal

pub returns : goal.returns
returns c = c.change.ensures _ (λ r y p. search rules)
