-- `entry::fresh_table` meets its contract: flags set in an aligned address add to it. No loop.
-- Assumes nothing.
use Rattle.definitions.specs.Entry.{fresh_table}
use Rattle.entry.proofs.Bits.{fresh_mask}
use native.Mathlib.Omega.{arith}
use Rattle.entry.proofs.fresh_table.Goals as goal

pub returns : goal.returns
unfolding fresh_table
returns c = fresh_mask c.args.addr 0x23 c.requires.0 (omega arith)
