-- `PageTableEntry::gpa` meets its contract: the present bit says whether there is one, as in `read_field`. No loop.
-- Assumes nothing.
use Rattle.definitions.specs.Entry.{read_field}
use Rattle.entry.proofs.Bits.{there_if}
use Rattle.std.proofs.Common.{rules}
use Rattle.entry.proofs.PageTableEntry.gpa.Goals as goal

pub returns : goal.returns
unfolding read_field
returns c = rw (← c.is_present.ensures) (there_if c.is_present.result _ _ (λ p. search rules) (λ p. search rules))
