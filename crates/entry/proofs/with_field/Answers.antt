-- `entry::with_field` meets its contract: the mask's laws, for whichever unit its field has. No loop.
-- Assumes nothing.
use Rattle.definitions.proofs.Entry.{set_mask}
use Rattle.entry.proofs.with_field.Goals as goal

pub returns : goal.returns
returns c u f whole low = set_mask f c.args.e c.args.addr c.ranges.e.fits whole low
