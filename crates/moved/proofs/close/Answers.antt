-- `moved::close` meets its contract: the gap moves behind the last leaf. No loop.
-- Assumes nothing.
use Rattle.moved.proofs.Leaves.{closed}
use Rattle.moved.proofs.close.Goals as goal

pub returns : goal.returns
returns c = closed c.move_gap-t.ensures
