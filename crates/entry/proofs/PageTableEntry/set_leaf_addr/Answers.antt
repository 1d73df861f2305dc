-- `PageTableEntry::set_leaf_addr` meets its contract: a level that no leaf has, and an address with a bit outside the level's
-- field, are refused, any other is set. No loop.
-- Assumes nothing.
use Rattle.definitions.proofs.Answers.{answer_good, answer_refused}
use Rattle.definitions.specs.Geometry.{span}
use Rattle.definitions.specs.Entry.{set_leaf_address}
use Rattle.entry.proofs.Bits.{leaf_level, leaf_mask, leaf_above, leaf_fits, fits_mask, misfits_mask, fits_yes}
use Prim.Native.Nat.{◌<◌}
use mathlib.Core.Path.{sym, ◌∙◌}
use Rattle.entry.proofs.PageTableEntry.set_leaf_addr.Goals as goal
use Rattle.entry.proofs.PageTableEntry.set_leaf_addr.Goals.{then-not-has_leaves-via-then-not-has_leaves, then-not-has_leaves-via-else-not-has_leaves+then-addr-field-ne0}

pub returns-then-not-has_leaves : goal.returns-then-not-has_leaves
unfolding set_leaf_address
returns-then-not-has_leaves c =
    let a = c.args in
    answer_refused _ _ a.self.now.entry
    (elim c.then-not-has_leaves.branch [
      | then-not-has_leaves-via-then-not-has_leaves w ↦ leaf_above a.level a.addr (sym c.has_leaves.ensures ∙ w.if-not-has_leaves.true)
      | then-not-has_leaves-via-else-not-has_leaves+then-addr-field-ne0 w ↦
          let low : a.level < 3 = leaf_level a.level (sym c.has_leaves.ensures ∙ w.if-not-has_leaves.false) in
          let mask = leaf_mask a.level _ low c.leaf_field-field.ensures in
          leaf_fits a.level a.addr low ∙ misfits_mask mask a.addr c.ranges.addr.fits w.if-addr-field-ne0.true
    ])

pub returns : goal.returns
unfolding set_leaf_address
returns c =
    let a = c.args in
    let low : a.level < 3 = leaf_level a.level (sym c.has_leaves.ensures ∙ c.if-not-has_leaves.false) in
    let mask = leaf_mask a.level _ low c.leaf_field-field.ensures in
    let i = fits_mask mask a.addr c.ranges.addr.fits c.if-addr-field-ne0.false in
    let fits = leaf_fits a.level a.addr low ∙ fits_yes (span a.level) a.addr i.0 i.1 in
    answer_good _ _ _ a.self.now.entry fits (c.with_field-self.ensures (span a.level) mask i.0 i.1)
