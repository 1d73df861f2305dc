-- Why a build is refused: by the stage at which it was, a condition of refusal holds, at the place that is given (given).
-- Builds on Both. Assumes nothing.
use mathlib.Core.Logic.{inl, inr, ⊎_elim}
use Rattle.definitions.specs.Inputs.{Job}
use Rattle.definitions.specs.Build.{build}
use Rattle.definitions.specs.Demand.{Proper}
use Rattle.definitions.specs.Conditions.{Given}
use Rattle.definitions.proofs.Checks.{no_bad_input}
use Rattle.demands.proofs.Both.Outcome.{Failed}
use Rattle.demands.proofs.Both.Refused.{refused_for}

-- the reason of a build that is refused, by the stage at which it was
pub given : (j : Job) → Proper j → Failed j (build j) → Given j (build j).report.number (build j).report.place
given j proper f =
    ⊎_elim inl
    (⊎_elim (λ b. inr (inl (no_bad_input j b.0, b.1)))
    (λ h. inr (inr (no_bad_input j h.0, h.2.clean, refused_for j proper h.0 h.2 h.3))))
    f.1
