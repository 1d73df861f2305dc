-- `moved::write_slot` meets its contract: three words are written, one after the other. No loop.
-- Assumes nothing.
use Rattle.moved.proofs.Slots.{put_three}
use Rattle.moved.proofs.write_slot.Goals as goal

pub returns : goal.returns
returns c = put_three _ _ _ _ _ c.requires
