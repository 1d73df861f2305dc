-- `Guide::visit_entry` and `Guide::walk_table` meet their contracts; they call each other, and the level falls. `visit_entry` opens
-- a
-- pointer and walks the table that it points to, one level down. `walk_table` has one loop, over the entries i of its table.
-- Invariant: `Turning`, what is left from entry i on gives the whole, and the state is fit to go on.
-- Measure of the calls: twice the level, and one more for a table.
-- Assumes nothing.
use Rattle.std.proofs.Common.{◌+◌, ◌*◌}
use Rattle.pass1.proofs.Walking.{Turning}
use Rattle.pass1.proofs.Guide.+visit_entry_walk_table.Given as goal

abbrev pub decreases-visit_entry : goal.decreases-visit_entry
decreases-visit_entry l = 2 * l.spot.level

abbrev pub decreases-walk_table : goal.decreases-walk_table
decreases-walk_table l = 2 * l.node.level + 1

abbrev pub invariant-walk_table-loop-i : goal.invariant-walk_table-loop-i
invariant-walk_table-loop-i l =
    Turning l.self.ranges.now l.self.plan l.node.table l.node.level l.node.va l.initial.out l.initial.scratch l.initial.walk l.out l.scratch l.walk l.i
