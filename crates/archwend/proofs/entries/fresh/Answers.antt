-- `fresh` meets its contract: for each kind it is `PageTableEntry::set_entry` of that kind, and the rest is none.
-- No loop.
-- Assumes nothing.
use mathlib.Core.Path.{◌∙◌}
use Rattle.archwend.specs.Entries.{fresh_of}
use Rattle.archwend.proofs.Forms.{no_kind}
use borrow.Author.Rules.{rules}
use Rattle.archwend.proofs.entries.fresh.Goals as goal
use Rattle.archwend.proofs.entries.fresh.Goals.{in-0, in-1, in-2, in-3}

pub returns-in_default : goal.returns-in_default
returns-in_default c = no_kind _ _ _ (λ e. search rules) (λ e. search rules) (λ e. search rules) (λ e. search rules)

pub returns : goal.returns
unfolding fresh_of
returns c =
    c.set_entry.ensures
    ∙ elim c.match-kind.branch [
      | in-0 w ↦ rw (w.in-0.is, w.made-is)
      | in-1 w ↦ rw (w.in-1.is, w.made-is)
      | in-2 w ↦ rw (w.in-2.is, w.made-is)
      | in-3 w ↦ rw (w.in-3.is, w.made-is)
    ]
