-- `entry::with_address` meets its contract: it is `with_field` with the field of a table entry. No loop.
-- Assumes nothing.
use Rattle.definitions.specs.Entry.{table_unit}
use Rattle.entry.proofs.Bits.{table_mask}
use Rattle.entry.proofs.with_address.Goals as goal

pub returns : goal.returns
returns c = let p = c.requires in c.with_field.ensures table_unit table_mask p.0 p.1
