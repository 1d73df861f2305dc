-- `Reached::ask` meets its contract: past table 511 there is none; below it the answer is `bits`, as it unfolds. No loop.
-- Assumes nothing.
use mathlib.Core.Path.{◌≡◌, refl}
use native.Mathlib.Omega.{arith}
use borrow.Author.Tests.{le-ltb}
use lib.ListN.{length}
use Rattle.reached.specs.Held.{bits}
use Rattle.reached.proofs.Laws.{none_past}
use Rattle.reached.proofs.Reached.ask.Goals as goal

pub returns-else-i-lt512 : goal.returns-else-i-lt512
returns-else-i-lt512 c =
    let w = c.args.self.now.words in
    let n : length w ≡ 8 = omega arith in
    rw (le-ltb _ _ c.if-i-lt512.false) (none_past w c.args.i (omega arith))

pub returns-then-i-lt512 : goal.returns-then-i-lt512
unfolding bits
returns-then-i-lt512 c = refl
