-- `levels::index_at` meets its contract: a shift by 12 plus nine for each level, and nine bits of what is left.
-- Assumes nothing.
use Rattle.definitions.proofs.Geometry.{index_shift}
use mathlib.Core.Path.{sym}
use borrow.Author.Rules.{rules}
use Rattle.levels.proofs.index_at.Goals as goal

pub returns : goal.returns
returns c = (sym (index_shift c.args.level c.args.gva), search rules)
