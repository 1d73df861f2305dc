-- `pass2::link_table` meets its contract: no table is left, or the next one is linked at the word. No loop.
-- Assumes nothing.
use mathlib.Core.Path.{ap, ◌∙◌}
use Rattle.definitions.specs.Words.{put, words_of}
use Rattle.pass2.proofs.Cases.{is_full, is_fresh}
use Rattle.pass2.proofs.link_table.Goals as goal

-- ---- the goals
pub returns-then-new-next : goal.returns-then-new-next
returns-then-new-next c = is_full c.requires.word_value c.if-new-next.true c.at.ensures

pub returns : goal.returns
returns c =
    let a = c.args in
    is_fresh c.requires.word_value c.if-new-next.false
    (c.write_word.ensures.0 ∙ ap (put (words_of a.out.now) a.word) c.fresh_table-link.ensures)
    c.write_word.ensures.1
