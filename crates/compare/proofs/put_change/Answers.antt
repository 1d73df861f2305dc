-- `compare::put_change` meets its contract: four words are written, one after the other. No loop.
-- Assumes nothing.
use Rattle.compare.proofs.Come.{stored}
use Prim.Native.Nat.{◌*◌, ◌/◌, ◌%◌}
use Rattle.compare.proofs.put_change.Goals as goal

pub returns : goal.returns
returns c = let a = c.args in stored a.list.now (4 * a.j) (a.k / 512) (a.k % 512) a.before a.after
