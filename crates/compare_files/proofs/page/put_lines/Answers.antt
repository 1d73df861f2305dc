-- `put_lines` meets its contract. One loop over the list's quadruples.
use Rattle.std.proofs.Common.{arith}
use Rattle.compare_files.proofs.Lines.{begins, ready, again, ends}
use Rattle.compare_files.proofs.page.put_lines.Goals as goal

pub loop-j-init : goal.loop-j-init
loop-j-init c = begins _ _ _ _

pub put_line-at-requires : goal.put_line-at-requires
put_line-at-requires c = ready _ _ _ _ c.loop-j.invariant (omega arith) c.loop-j-test.true

pub loop-j-preserved : goal.loop-j-preserved
loop-j-preserved c = again _ _ _ _ c.loop-j.invariant (omega arith) c.loop-j-test.true c.put_line-at.ensures

pub returns : goal.returns
returns c = ends _ _ _ _ c.loop-j.invariant (omega arith) c.loop-j-test.false
