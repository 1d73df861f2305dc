-- `levels::span_of` meets its contract: the table of sizes is the definition's, level by level.
-- Assumes nothing.
use Rattle.levels.proofs.ByLevel.{mapped, mapped_span, span_low, span_high}
use Rattle.definitions.specs.Geometry.{span}
use lib.ListN.{get_or}
use mathlib.Core.Path.{◌≡◌}
use native.Mathlib.Omega.{arith}
use Rattle.levels.proofs.span_of.Goals as goal

pub returns : goal.returns
returns c =
    let l = c.args.level in
    let e : get_or mapped l 0 ≡ span l = mapped_span l c.requires in
    (e, omega (arith, e, span_low l), omega (arith, e, span_high l c.requires))
