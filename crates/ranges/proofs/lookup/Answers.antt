-- `lookup` meets its contract. One loop, over the words in threes, up to the first range that does not end before the leaf.
use Rattle.std.proofs.Common.{◌∙◌, ap, sym, map, refl}
use Rattle.ranges.proofs.Scan.{begin, over, past, again, hit}
use Rattle.ranges.proofs.Threes.{in_threes, range_in}
use Rattle.ranges.proofs.lookup.Goals as goal

-- ---- the goals
pub loop-first-init : goal.loop-first-init
loop-first-init c =
    begin (in_threes _ _ refl ∙ ap (map range_in) (sym c.as_chunks.ensures.front)) c.requires c.region_joins-joined.ensures

pub returns-then-end-first : goal.returns-then-end-first
returns-then-end-first c = past c.loop-first.invariant c.loop-first-test.true c.if-end-first.true c.no_range.ensures

pub returns-then-a-last : goal.returns-then-a-last
returns-then-a-last c = hit c.loop-first.invariant c.loop-first-test.true c.if-end-first.false c.if-a-last.true c.one_range.ensures

pub loop-first-preserved : goal.loop-first-preserved
loop-first-preserved c = again c.loop-first.invariant c.loop-first-test.true c.if-a-last.false

pub returns : goal.returns
returns c = over c.loop-first.invariant c.loop-first-test.false c.no_range-2.ensures
