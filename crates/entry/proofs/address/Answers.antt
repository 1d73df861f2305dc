-- `entry::address` meets its contract: the mask of the address field. No loop.
-- Assumes nothing.
use Rattle.definitions.proofs.Entry.{field_mask}
use Rattle.entry.proofs.Bits.{table_mask}
use Rattle.entry.proofs.address.Goals as goal

pub returns : goal.returns
returns c = field_mask table_mask c.args.e
