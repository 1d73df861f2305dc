-- `list_valid` meets its contract. One loop, over the words in threes: lo goes to one above the last address of each range.
use Rattle.std.proofs.Common.{◌∙◌, ap, sym, map, refl, not, arith}
use Rattle.ranges.proofs.Check.{bad_thirds, bad_many, begin, over, stop, bound, again}
use Rattle.ranges.proofs.Threes.{in_threes, range_in}
use Rattle.ranges.proofs.list_valid.Goals as goal

-- ---- the goals
pub returns-then-not-is_empty : goal.returns-then-not-is_empty
returns-then-not-is_empty c = bad_thirds _ _ _ c.as_chunks.ensures.back_len (sym c.is_empty.ensures ∙ c.if-not-is_empty.true)

pub returns-then-threes-gt-MOST : goal.returns-then-threes-gt-MOST
returns-then-threes-gt-MOST c =
    let e = c.as_chunks.ensures in
    bad_many _ _ _ e.back_len _ (sym c.is_empty.ensures ∙ c.if-not-is_empty.false) e.front_len c.if-threes-gt-MOST.true

pub loop-first-init : goal.loop-first-init
loop-first-init c =
    let e = c.as_chunks.ensures in
    begin _ _ _ e.back_len _ (sym c.is_empty.ensures ∙ c.if-not-is_empty.false) e.front_len
    (in_threes _ _ refl ∙ ap (map range_in) (sym e.front)) c.if-threes-gt-MOST.false

pub returns-then-not-range_valid : goal.returns-then-not-range_valid
returns-then-not-range_valid c = stop c.loop-first.invariant c.loop-first-test.true c.range_valid.ensures (ap not c.if-not-range_valid.true)

pub overflow_add-lo : goal.overflow_add-lo
overflow_add-lo c =
    let k = bound c.loop-first.invariant c.loop-first-test.true c.range_valid.ensures (ap not c.if-not-range_valid.false) in
    omega arith

pub loop-first-preserved : goal.loop-first-preserved
loop-first-preserved c = again c.loop-first.invariant c.loop-first-test.true c.range_valid.ensures (ap not c.if-not-range_valid.false)

pub returns : goal.returns
returns c = over c.loop-first.invariant c.loop-first-test.false
