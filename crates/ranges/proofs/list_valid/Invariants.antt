-- `list_valid` meets its contract. One loop, over the words in threes: lo goes to one above the last address of each range.
-- Invariant: `Checking`, the ranges from this one on, above lo, decide whether the whole list keeps the rules.
-- Assumes nothing.
use Rattle.ranges.proofs.Check.{Checking}
use Rattle.ranges.proofs.list_valid.Given as goal

abbrev pub invariant-loop-first : goal.invariant-loop-first
invariant-loop-first l = Checking l.geometry.limit l.r l.ranges l.threes l.first-index l.lo
