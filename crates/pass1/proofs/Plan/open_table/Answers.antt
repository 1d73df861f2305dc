-- `Plan::open_table` meets its contract: the two that it calls, for a pointer into the old region and one outside, have the same
-- promise. No loop.
-- Assumes nothing.
use Rattle.std.proofs.lemmas.Result.{err_from_is_err_and}
use Rattle.pass1.proofs.Plan.open_table.Goals as goal

pub returns-in_err-pass_outside-in-None : goal.returns-in_err-pass_outside-in-None
returns-in_err-pass_outside-in-None c =
    let at = c.from_residual-in_err-pass_outside-in-None in
    let p = err_from_is_err_and at.result at.ensures.1 in
    rw (p.1, p.2) (c.in_err-pass_outside-in-None.ensures _ _)
