-- `pass2::Site::insert` meets its contract. One loop: `level` goes down from the highest that there can be to the leaf's level.
-- Invariant: `Rest`, what is left from `table` down gives the whole, and the table, the counts and the bytes are fit to go on; and
-- `word` is the one of `table` on the way.
-- Above the root's level `table` is still the root.
-- Assumes nothing.
use Rattle.std.proofs.Common.{◌+◌, ◌-◌, ◌≤◌}
use Rattle.pass2.proofs.Down.{Rest, OnWay}
use Rattle.pass2.proofs.Site.insert.Given as goal

abbrev pub invariant-loop-level : goal.invariant-loop-level
invariant-loop-level l =
    Rest l.self.geometry l.self.region l.self.root l.leaf l.initial.s l.initial.out l.out (l.level - 1) l.table l.s
    × OnWay l.leaf.address (l.level - 1) l.table l.word × (l.leaf.level + 1 ≤ l.level)
