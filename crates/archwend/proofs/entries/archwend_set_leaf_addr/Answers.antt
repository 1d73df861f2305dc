-- `archwend_set_leaf_addr` meets its contract: it is `PageTableEntry::set_leaf_addr`, whose answer is left. No loop.
-- Assumes nothing.
use Rattle.std.proofs.Common.{rules}
use Rattle.archwend.proofs.entries.archwend_set_leaf_addr.Goals as goal

pub returns : goal.returns
returns c = c.change.ensures _ (λ r y p. search rules)
