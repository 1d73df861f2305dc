-- `Reached::mark` meets its contract: past table 511 nothing changes; below it one bit is set, which `mark_held` reads. No loop.
-- Assumes nothing.
use mathlib.Core.Path.{◌≡◌}
use Prim.Native.Nat.{◌%◌}
use native.Mathlib.Omega.{arith}
use lib.ListN.{length}
use Rattle.definitions.proofs.Entry.{one_shl}
use Rattle.reached.proofs.Laws.{mark_held, marked_low, marked_high}
use Rattle.reached.proofs.Reached.mark.Goals as goal

pub returns-then-i-lt512 : goal.returns-then-i-lt512
returns-then-i-lt512 c =
    let w = c.args.self.now.words in
    let i = c.args.i in
    let n : length w ≡ 8 = omega arith in
    rw (one_shl 64 (i % 64) (omega arith), mark_held w i (omega arith), marked_low _ i c.if-i-lt512.true)

pub returns-else-i-lt512 : goal.returns-else-i-lt512
returns-else-i-lt512 c = marked_high _ _ c.if-i-lt512.false
