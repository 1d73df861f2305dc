-- `PageTableEntryType::word` meets its contract: one case for each kind, which asks `fresh` with the kind's size and flags.
-- No loop.
-- Assumes nothing.
use Rattle.entry.specs.Kinds.{set_entry}
use Rattle.entry.proofs.Bits.{pages, fresh_leaf_lem, fresh_pde}
use mathlib.Core.Path.{sym, ap, ◌∙◌}
use native.Mathlib.Omega.{arith}
use Rattle.entry.proofs.PageTableEntryType.word.Goals as goal

pub fresh-requires : goal.fresh-requires
fresh-requires c = let p = pages 2 _ c.span_of.ensures.0 in (p.0, p.1, omega arith)

pub fresh-requires-in-Leaf2MbPage : goal.fresh-requires-in-Leaf2MbPage
fresh-requires-in-Leaf2MbPage c = let p = pages 1 _ c.span_of-in-Leaf2MbPage.ensures.0 in (p.0, p.1, omega arith)

pub fresh-requires-in-Leaf4kPage : goal.fresh-requires-in-Leaf4kPage
fresh-requires-in-Leaf4kPage c = let p = pages 0 _ c.span_of-in-Leaf4kPage.ensures.0 in (p.0, p.1, omega arith)

pub returns-in-Leaf1GbPage : goal.returns-in-Leaf1GbPage
returns-in-Leaf1GbPage c old =
    fresh_leaf_lem 2 old _ (omega arith) c.span_of.ensures.0 c.fresh.ensures ∙ ap (set_entry old) (sym c.in-Leaf1GbPage.is)

pub returns-in-Leaf2MbPage : goal.returns-in-Leaf2MbPage
returns-in-Leaf2MbPage c old =
    fresh_leaf_lem 1 old _ (omega arith) c.span_of-in-Leaf2MbPage.ensures.0 c.fresh-in-Leaf2MbPage.ensures
    ∙ ap (set_entry old) (sym c.in-Leaf2MbPage.is)

pub returns-in-Leaf4kPage : goal.returns-in-Leaf4kPage
returns-in-Leaf4kPage c old =
    fresh_leaf_lem 0 old _ (omega arith) c.span_of-in-Leaf4kPage.ensures.0 c.fresh-in-Leaf4kPage.ensures
    ∙ ap (set_entry old) (sym c.in-Leaf4kPage.is)

pub returns-in-Pde : goal.returns-in-Pde
returns-in-Pde c old = fresh_pde old _ c.fresh-in-Pde.ensures ∙ ap (set_entry old) (sym c.in-Pde.is)
