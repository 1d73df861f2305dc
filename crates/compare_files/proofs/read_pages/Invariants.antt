-- `read_pages` reads a page of both files in each turn. What is proved is that it ends and that nothing it adds up overflows.
-- Invariant: each turn added at most a page of bytes to each length, and at most 512 differences.
-- Assumes nothing.
use Rattle.std.proofs.Common.{◌*◌, ◌≤◌}
use Rattle.compare_files.proofs.read_pages.Given as goal

abbrev pub invariant-loop-table : goal.invariant-loop-table
invariant-loop-table g l = record {
  older : l.reading.older ≤ 4096 * l.table;
  newer : l.reading.newer ≤ 4096 * l.table;
  count : l.reading.count ≤ 512 * l.table;
}
