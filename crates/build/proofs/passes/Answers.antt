-- `build::passes` meets its contract: pass 1 walks the plan, and pass 2 puts the leaves in, unless one of them refuses. No loop.
-- `Handing` says what each pass is asked and how the passes end.
-- Assumes nothing.
use Rattle.build.proofs.Handing.{asked, root_used, ends_first, stored, ends_second, used_fits, ends_go}
use Rattle.std.proofs.Common.{refl, arith, rules}
use Rattle.std.proofs.lemmas.Result.{err_from_is_err_and}
use Rattle.build.proofs.passes.Goals as goal

pub first_pass-requires : goal.first_pass-requires
first_pass-requires c = (asked c.requires.1, root_used c.requires.1)

pub returns-in_err-walked : goal.returns-in_err-walked
returns-in_err-walked c j ready =
    let p = err_from_is_err_and c.from_residual.result c.from_residual.ensures.1 in
    rw (p.1, p.2) (ends_first ready c.first_pass.ensures c.in_err-walked.was)

pub second_pass-requires : goal.second_pass-requires
second_pass-requires c = stored c.requires.1 c.first_pass.ensures c.in_ok-walked.was _ (search rules)

pub returns-in_err-fill : goal.returns-in_err-fill
returns-in_err-fill c j ready =
    let p = err_from_is_err_and c.from_residual-in_err-fill.result c.from_residual-in_err-fill.ensures.1 in
    rw (p.1, p.2) (ends_second ready c.first_pass.ensures c.in_ok-walked.was refl c.second_pass.ensures c.in_err-fill.was)

pub count-requires : goal.count-requires
count-requires c =
    let fits = used_fits c.requires.1 c.first_pass.ensures c.in_ok-walked.was refl c.second_pass.ensures c.in_ok-fill.was in
    let first = c.in_ok-walked.ensures in
    (omega (arith, fits), omega (arith, first.held.fits, first.long))

pub returns : goal.returns
returns c j ready = ends_go ready c.first_pass.ensures c.in_ok-walked.was refl c.second_pass.ensures c.in_ok-fill.was c.count.ensures
