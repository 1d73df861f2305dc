-- `PageTableEntry::leaf_gpa` meets its contract: the test of the level is that of `read_leaf_address`, and the present bit says
-- whether there is one. No loop.
-- Assumes nothing.
use Rattle.definitions.specs.Entry.{read_field, read_leaf_address}
use Rattle.definitions.proofs.Entry.{field_mask}
use Rattle.entry.proofs.Bits.{leaf_level, leaf_mask, then_some_if}
use lib.Dec.{leb}
use mathlib.Core.Bool.{true}
use mathlib.Core.Path.{◌≡◌, sym, ◌∙◌}
use Rattle.entry.proofs.PageTableEntry.leaf_gpa.Goals as goal

pub returns-then-not-has_leaves : goal.returns-then-not-has_leaves
unfolding read_leaf_address
returns-then-not-has_leaves c = rw (sym c.has_leaves.ensures ∙ c.if-not-has_leaves.true)

pub returns : goal.returns
unfolding read_leaf_address read_field
returns c =
    let level : leb c.args.level 2 ≡ true = sym c.has_leaves.ensures ∙ c.if-not-has_leaves.false in
    let a = c.args in
    let mask = leaf_mask a.level _ (leaf_level a.level level) c.leaf_field.ensures in
    let field = field_mask mask a.self.entry in
    rw (level, ← c.is_present.ensures, ← field, c.then_some.ensures, then_some_if)
