-- `entry::is_large` meets its contract: the mask of bit 7. No loop.
-- Assumes nothing.
use Rattle.entry.proofs.Bits.{large_mask}
use Rattle.entry.proofs.is_large.Goals as goal

pub returns : goal.returns
returns c = large_mask c.args.e
