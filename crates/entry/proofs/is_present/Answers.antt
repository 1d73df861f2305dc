-- `entry::is_present` meets its contract: the mask of bit 0. No loop.
-- Assumes nothing.
use Rattle.entry.proofs.Bits.{present_mask}
use Rattle.entry.proofs.is_present.Goals as goal

pub returns : goal.returns
returns c = present_mask c.args.e
