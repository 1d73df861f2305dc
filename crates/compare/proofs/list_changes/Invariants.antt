-- `compare::list_changes` meets its contract. One loop over the words of both images.
-- Invariant: `Come`, the list begins with the changes among the words before k.
-- A word that differs stops the loop where the list is full, else it is put and counted.
-- Assumes nothing.
use Rattle.definitions.specs.Words.{words_of}
use Rattle.compare.proofs.Come.{Come}
use lib.ListN.{length}
use Rattle.compare.proofs.list_changes.Given as goal

abbrev pub invariant-loop-k : goal.invariant-loop-k
invariant-loop-k l =
    Come (words_of l.older) (words_of l.newer) (length l.initial.list) l.list l.count l.k
