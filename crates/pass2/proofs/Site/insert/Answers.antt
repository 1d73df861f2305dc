-- `pass2::Site::insert` meets its contract. One loop: `level` goes down from the highest that there can be to the leaf's level.
use Rattle.std.proofs.Common.{Err, sym, ap, ◌∙◌, arith}
use Rattle.std.proofs.lemmas.Result.{err_from_is_err_and}
use Rattle.pass2.proofs.Down.{over, stopped, again}
use Rattle.pass2.proofs.Site.insert.Goals as goal

-- ---- the goals
pub returns-in_err-table : goal.returns-in_err-table
returns-in_err-table c =
    let inv = c.loop-level.invariant in
    let p = err_from_is_err_and c.from_residual.result c.from_residual.ensures.1 in
    rw p.1 (stopped inv.0 inv.1.0 (omega arith) c.step_down.ensures (c.in_err-table.was ∙ ap Err (sym p.2)))

pub loop-level-preserved : goal.loop-level-preserved
loop-level-preserved c =
    let inv = c.loop-level.invariant in
    let rest = again inv.0 inv.1.0 (omega arith) c.step_down.ensures c.in_ok-table.was in
    (rest, c.word_at-word-in-loop-level.ensures, omega arith)

pub returns : goal.returns
returns c =
    let inv = c.loop-level.invariant in
    over inv.0 inv.1.0 (omega arith) c.place.ensures
