-- `words::copy` meets its contract. One loop. Invariant: the first i bytes of src are pasted.
-- Assumes nothing.
use lib.Seq.{paste}
use mathlib.Core.Path.{◌≡◌}
use Rattle.words.proofs.copy.Given as goal

abbrev pub invariant-loop-i : goal.invariant-loop-i
invariant-loop-i l = l.buf ≡ paste l.initial.buf l.at l.src l.i
