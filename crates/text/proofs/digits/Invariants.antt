-- `text::digits` meets its contract. One loop over the text.
-- Invariant: `Come`, the value so far, followed by the rest, is what the whole says.
-- Assumes nothing.
use Rattle.text.proofs.Values.{Come}
use Rattle.text.proofs.digits.Given as goal

abbrev pub invariant-loop-byte : goal.invariant-loop-byte
invariant-loop-byte l = Come l.s l.value l.byte-index
