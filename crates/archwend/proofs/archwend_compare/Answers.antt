-- `archwend_compare` meets its contract: it is `compare::compare`, and the part is told by its first byte and its length. No loop.
-- Assumes nothing.
use mathlib.Core.Path.{sym, ap, ◌∙◌}
use lib.ListN.{length}
use Rattle.archwend.proofs.Compared.{sized, unsized, four}
use Rattle.archwend.proofs.archwend_compare.Goals as goal

pub returns-in-Ok : goal.returns-in-Ok
returns-in-Ok c =
    let b = c.in-Ok.ensures in
    record {
      answered = four b.numbered b.counted b.started (ap length b.handed ∙ sized _ _ _ (sym b.numbered));
      listed = b.listed;
    }

pub returns-in-Err : goal.returns-in-Err
returns-in-Err c =
    let b = c.in-Err.ensures in
    record {
      answered = four (c.number.ensures ∙ b.numbered) b.counted b.started (unsized _ _ _ c.in-Err.error b.numbered);
      listed = b.listed;
    }
