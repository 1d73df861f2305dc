-- `masks::extract_individual_masks` meets its contract. One loop, which takes out the lowest bit that is left.
-- Invariant: `Taken`, the bits taken out and those of the rest are the mask's. Measure: the rest.
-- Assumes nothing.
use Rattle.masks.proofs.Lowest.{Taken}
use Rattle.masks.proofs.extract_individual_masks.Given as goal

abbrev pub invariant-loop-rest : goal.invariant-loop-rest
invariant-loop-rest l = Taken l.mask l.bits l.rest l.count

abbrev pub decreases-loop-rest : goal.decreases-loop-rest
decreases-loop-rest l = l.rest
