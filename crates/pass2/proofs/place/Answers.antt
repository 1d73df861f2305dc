-- `pass2::place` meets its contract: the word is written, merged or refused, as the entry there is absent, equal or different.
-- No loop.
-- Assumes nothing.
use mathlib.Core.Path.{sym, ◌∙◌}
use Rattle.pass2.proofs.Cases.{is_written, is_merged, is_different}
use Rattle.pass2.proofs.place.Goals as goal

-- ---- the goals
pub returns-then-not-is_present : goal.returns-then-not-is_present
returns-then-not-is_present c =
    is_written c.read_word-there.ensures (sym c.is_present.ensures ∙ c.if-not-is_present.true) c.write_word.ensures.0 c.write_word.ensures.1

pub returns-then-there-new : goal.returns-then-there-new
returns-then-there-new c =
    is_different c.read_word-there.ensures (sym c.is_present.ensures ∙ c.if-not-is_present.false) c.if-there-new.true c.at.ensures

pub returns : goal.returns
returns c = is_merged c.read_word-there.ensures (sym c.is_present.ensures ∙ c.if-not-is_present.false) c.if-there-new.false
