-- `files::fill` meets its contract: it reads until the buffer is full, the file ends or a read fails.
-- Invariant: what is read fits the buffer, which is as long as at entry, and is what the file gave. Measure: the room left; a read
-- of nothing ends the loop.
-- Assumes nothing.
use Rattle.std.proofs.Common.{length, ◌-◌, ◌≡◌, ◌≤◌, take}
use Rattle.std.specs.Io.KnownBytes.{Consumes}
use Rattle.files.proofs.fill.Given as goal

abbrev pub invariant-loop-n : goal.invariant-loop-n
invariant-loop-n g l =
    (l.n ≤ length l.buf) × (length l.buf ≡ length l.fn.buf)
    × Consumes (g.F.Read.remaining l.fn.file) (g.F.Read.remaining l.file) (take l.n l.buf)

abbrev pub decreases-loop-n : goal.decreases-loop-n
decreases-loop-n g l = length l.buf - l.n
