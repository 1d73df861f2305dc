-- `words::fill_from` meets its contract. One loop. Invariant: as many values are pasted from place `from` on as there were turns.
-- Assumes nothing.
use lib.Seq.{paste}
use lib.ListN.{replicate}
use Prim.Native.Nat.{◌-◌}
use mathlib.Core.Path.{◌≡◌}
use Rattle.words.proofs.fill_from.Given as goal

abbrev pub invariant-loop-i : goal.invariant-loop-i
invariant-loop-i g l = l.items ≡ paste l.initial.items l.from (replicate (l.i - l.from) l.fn.value) (l.i - l.from)
