-- `text::digits` meets its contract. One loop over the text; each answer cites its law.
-- Assumes nothing.
use Rattle.std.proofs.Common.{◌∙◌, arith}
use Rattle.text.proofs.Values.{stops, leaves, again, ends}
use Rattle.text.proofs.digits.Goals as goal

pub returns-in_err-counts : goal.returns-in_err-counts
returns-in_err-counts c = c.from_residual.ensures ∙ stops c.loop-byte.invariant c.loop-byte-test.true c.in_err-counts.ensures

pub returns-in_err-value : goal.returns-in_err-value
returns-in_err-value c =
    let digit = c.in_ok-counts.ensures in
    c.from_residual-in_err-value.ensures ∙ leaves c.loop-byte.invariant c.loop-byte-test.true digit.0 digit.1 (omega (arith, c.in_err-value.ensures))

pub loop-byte-preserved : goal.loop-byte-preserved
loop-byte-preserved c =
    let digit = c.in_ok-counts.ensures in
    rw c.in_ok-value.ensures.1 (again c.loop-byte.invariant c.loop-byte-test.true digit.0 digit.1 (omega arith))

pub returns : goal.returns
returns c = ends c.loop-byte.invariant c.loop-byte-test.false
