-- `entry::has_leaves` meets its contract: leaves have the levels up to 2. No loop.
-- Assumes nothing.
use Rattle.entry.proofs.Bits.{below_three}
use Rattle.entry.proofs.has_leaves.Goals as goal

pub returns : goal.returns
returns c = below_three c.args.level
