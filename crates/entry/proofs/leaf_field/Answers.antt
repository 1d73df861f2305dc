-- `entry::leaf_field` meets its contract: what is read of the list, with 0 past its end, is the definition's, level by level.
-- No loop.
-- Assumes nothing.
use Rattle.entry.proofs.Bits.{leaf_fields_lem}
use Rattle.std.specs.Option.{unwrap_or}
use native.Mathlib.Omega.{arith}
use mathlib.Core.Path.{ap, ◌∙◌}
use Rattle.entry.proofs.leaf_field.Goals as goal

pub returns : goal.returns
returns c =
    c.unwrap_or.ensures ∙ ap (λ o. unwrap_or o 0) c.copied.ensures
    ∙ c.get.ensures.lookup.4 (omega arith) 0 ∙ leaf_fields_lem c.args.level
