-- `pass2::second_pass` meets its contract: the store is closed, so that `insert_all` finds its leaves in the first slots. No loop.
-- Assumes nothing.
use Rattle.pass2.proofs.All.{filled}
use Rattle.pass2.proofs.second_pass.Goals as goal

-- ---- the goals
pub returns : goal.returns
returns c = filled c.close-count.ensures c.insert_all.ensures
