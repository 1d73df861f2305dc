-- `moved::remember` meets its contract: `find` looks for the leaf's address, then comes the test of the room, then `put`. No loop.
-- Each answer is one case of `Keeps`. Every place is seen from `find`, the first call.
-- Assumes nothing.
use Rattle.moved.proofs.Adding.{keeps_clash, keeps_full, keeps_in}
use Rattle.moved.specs.View.{Room}
use native.Mathlib.Omega.{arith}
use Rattle.moved.proofs.remember.Goals as goal

-- ---- the goals
pub returns-then-room-s : goal.returns-then-room-s
returns-then-room-s c =
    keeps_full c.in-Some.ensures.0 (omega (arith, c.capacity-room.ensures, c.if-room-s.true))

pub returns-in_default : goal.returns-in_default
returns-in_default c = keeps_clash c.in_default.ensures

pub put-requires : goal.put-requires
put-requires c =
    let room : let a = c.args in Room a.scratch.now a.s = omega (arith, c.capacity-room.ensures, c.if-room-s.false) in
    record { held = c.requires; room = room; gap = c.in-Some.ensures.1 }

pub returns : goal.returns
returns c =
    let room : let a = c.args in Room a.scratch.now a.s = omega (arith, c.capacity-room.ensures, c.if-room-s.false) in
    keeps_in c.in-Some.ensures.0 room c.put.ensures
