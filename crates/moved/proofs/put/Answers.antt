-- `moved::put` meets its contract: the gap moves to the leaf's place, and the leaf is written into the slot before it. No loop.
-- `put_remembered` has the whole from what the two calls give.
-- Assumes nothing.
use Rattle.moved.proofs.Adding.{put_remembered}
use Rattle.moved.proofs.put.Goals as goal

pub returns : goal.returns
returns c =
    let p = c.requires in
    put_remembered p.held p.room p.gap c.move_gap-t.ensures c.write_slot.ensures
