-- `entry::points_to_table` meets its contract: by the level, as `pointer` has it, and then the bit. No loop.
-- Assumes nothing.
use Rattle.definitions.specs.Entry.{pointer}
use mathlib.Core.Bool.{not}
use borrow.Author.Tests.{le-leb, lt-leb}
use mathlib.Core.Path.{ap}
use native.Mathlib.Omega.{arith}
use Rattle.entry.proofs.points_to_table.Goals as goal

pub returns-in-0 : goal.returns-in-0
unfolding pointer
returns-in-0 c = rw c.in-0.is

pub returns-in-1 : goal.returns-in-1
unfolding pointer
returns-in-1 c = let l = c.args.level in rw (lt-leb 3 l (omega arith), le-leb 1 l (omega arith)) (ap not c.is_large.ensures)

pub returns-in_default : goal.returns-in_default
unfolding pointer
returns-in_default c = rw (le-leb 3 c.args.level (omega arith))
