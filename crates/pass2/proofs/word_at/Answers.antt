-- `pass2::word_at` meets its contract: the index of the level is read off the path. No loop.
-- Assumes nothing.
use Rattle.std.proofs.Common.{ap, arith, ◌+◌, ◌*◌, ℕ}
use Rattle.levels.proofs.ByLevel.{indexed_at}
use Rattle.pass2.proofs.word_at.Goals as goal

-- ---- the goals
pub overflow_add-result : goal.overflow_add-result
overflow_add-result c = omega (arith, indexed_at _ _ _ c.requires.2 c.requires.0)

pub returns : goal.returns
returns c =
    let e = indexed_at _ _ _ c.requires.2 c.requires.0 in
    (ap (λ (n : ℕ). 512 * c.args.table + n) e, omega (arith, e))
