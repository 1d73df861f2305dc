-- `Buffers::new` gives each buffer the length that `vec!` says. No loop.
-- Assumes nothing.
use Rattle.files.proofs.Buffers.new.Goals as goal

pub returns : goal.returns
returns c = (c.in_ok-image.ensures.len, c.in_ok-output.ensures.len, c.in_ok-scratch.ensures.len, c.new-ranges.ensures)
