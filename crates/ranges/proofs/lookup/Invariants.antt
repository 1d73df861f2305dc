-- `lookup` meets its contract. One loop, over the words in threes, up to the first range that does not end before the leaf.
-- Invariant: `Scanning`, the ranges from this one on keep the rules, and with the region decide what the whole list says.
-- Assumes nothing.
use Rattle.ranges.proofs.Scan.{Scanning}
use Rattle.ranges.proofs.lookup.Given as goal

abbrev pub invariant-loop-first : goal.invariant-loop-first
invariant-loop-first l = Scanning l.ranges l.first-items l.r l.offset l.a l.size l.joined l.first-index
