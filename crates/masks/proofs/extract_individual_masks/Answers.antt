-- `masks::extract_individual_masks` meets its contract. One loop, which takes out the lowest bit that is left.
use native.Mathlib.Omega.{arith}
use Rattle.definitions.proofs.Entry.{one_shl}
use Rattle.masks.proofs.Lowest.{taken_none, taken_room, taken_few, taken_less, taken_more, taken_done}
use Rattle.masks.proofs.extract_individual_masks.Goals as goal

-- ---- the goals
pub loop-rest-init : goal.loop-rest-init
loop-rest-init c = taken_none c.args.mask c.ranges.mask.fits

pub offset_bounds-bits-count : goal.offset_bounds-bits-count
offset_bounds-bits-count c = omega (arith, taken_room c.loop-rest.invariant c.loop-rest-test.true)

pub bounds-bits-count : goal.bounds-bits-count
bounds-bits-count c = taken_room c.loop-rest.invariant c.loop-rest-test.true

pub overflow_add-count : goal.overflow_add-count
overflow_add-count c = omega (arith, taken_room c.loop-rest.invariant c.loop-rest-test.true)

pub loop-rest-smaller : goal.loop-rest-smaller
loop-rest-smaller c =
    let some = c.loop-rest-test.true in
    rw (one_shl 32 _ (taken_few c.loop-rest.invariant some)) (taken_less c.loop-rest.invariant some)

pub loop-rest-preserved : goal.loop-rest-preserved
loop-rest-preserved c =
    let some = c.loop-rest-test.true in
    rw (one_shl 32 _ (taken_few c.loop-rest.invariant some)) (taken_more c.loop-rest.invariant some)

pub returns : goal.returns
returns c = taken_done c.loop-rest.invariant c.loop-rest-test.false
