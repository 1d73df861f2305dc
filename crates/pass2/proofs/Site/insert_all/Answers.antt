-- `pass2::Site::insert_all` meets its contract. One loop over the leaves.
use Rattle.std.proofs.Common.{Err, sym, ap, ◌∙◌}
use Rattle.std.proofs.lemmas.Result.{err_from_is_err_and}
use Rattle.pass2.proofs.All.{over, stopped, again}
use Rattle.pass2.proofs.Site.insert_all.Goals as goal

-- ---- the goals
pub returns-in_err-s : goal.returns-in_err-s
returns-in_err-s c =
    let p = err_from_is_err_and c.from_residual.result c.from_residual.ensures.1 in
    rw p.1
    (stopped c.loop-i.invariant c.loop-i-test.true c.read.ensures c.insert.ensures (c.in_err-s.was ∙ ap Err (sym p.2)))

pub loop-i-preserved : goal.loop-i-preserved
loop-i-preserved c = again c.loop-i.invariant c.loop-i-test.true c.read.ensures c.insert.ensures c.in_ok-s.was

pub returns : goal.returns
returns c = over c.loop-i.invariant c.loop-i-test.false c.loop-i.auto.i-end
