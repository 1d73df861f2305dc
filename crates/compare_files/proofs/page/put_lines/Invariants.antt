-- `put_lines` meets its contract. One loop over the list's quadruples.
-- Invariant: `Listing`, the lines of the first j quadruples are put.
-- Assumes nothing.
use Rattle.compare_files.proofs.Lines.{Listing}
use Rattle.compare_files.proofs.page.put_lines.Given as goal

abbrev pub invariant-loop-j : goal.invariant-loop-j
invariant-loop-j l = Listing l.table l.count l.list l.initial.out l.out l.at l.j
