-- `Reached::none` meets its contract: words of zeros hold no table. No loop.
-- Assumes nothing.
use Rattle.reached.proofs.Laws.{none_held}
use Rattle.reached.proofs.Reached.none.Goals as goal

pub returns : goal.returns
returns c = none_held 8
