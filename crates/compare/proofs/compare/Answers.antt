-- `compare::compare` meets its contract: what follows the listed differences in the list is cleared, and the part handed back; after
-- a refusal the whole list is cleared. No loop.
-- Assumes nothing.
use Rattle.std.proofs.Common.{arith}
use Rattle.compare.proofs.Part.{refused, enough, inside, whole}
use Rattle.compare.proofs.compare.Goals as goal

pub overflow_mul-count : goal.overflow_mul-count
overflow_mul-count c = omega (arith, enough _ _ _ _ _ c.in-Ok.ensures)

pub accept-requires : goal.accept-requires
accept-requires c = inside _ _ _ _ _ c.in-Ok.ensures _ c.fill_from.ensures

pub returns-in-Ok : goal.returns-in-Ok
returns-in-Ok c = whole _ _ _ _ _ c.in-Ok.ensures c.fill_from.ensures c.accept.ensures

pub returns-in-Err : goal.returns-in-Err
returns-in-Err c = refused _ _ _ _ c.in-Err.ensures c.fill_from-in-Err.ensures
