-- What the promise allows is one outcome.
-- Assumes nothing.
use mathlib.Core.Path.{◌≡◌, sym, ap₂, ◌∙◌}
use mathlib.Core.List.{List}
use Prim.Native.Nat.{ℕ}
use Rattle.masks.specs.Promises.{Splits}
use Rattle.masks.specs.declared.Split.{Split}

pub one_split : (m : ℕ) (r s : Split) → Splits m r → Splits m s → r ≡ s
one_split m r s p q = ap₂ both (p.bits_are ∙ sym q.bits_are) (p.count_is ∙ sym q.count_is)
  where
    both : List ℕ → ℕ → Split
    both bs n = record { bits = bs; count = n }
