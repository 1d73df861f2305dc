-- What the promise of `compare` allows is one outcome: of the answer, the list and the part.
-- Assumes nothing.
use mathlib.Core.Path.{◌≡◌, sym, ◌∙◌}
use mathlib.Core.List.{List}
use Prim.Native.Nat.{ℕ}
use Rattle.std.specs.Prelude.{Result}
use Rattle.definitions.specs.Refusals.{number_in}
use Rattle.definitions.specs.declared.refusals.Error.{Error}
use Rattle.compare.specs.declared.Differences.{Differences}
use Rattle.compare.specs.Meaning.{count_in, start_in, part_in, Compares}

module _ (older newer : List ℕ) (room : ℕ) (r s : Result Differences Error) (xs ys : List ℕ) where
  pub one_comparison : Compares older newer room r xs → Compares older newer room s ys
      → (number_in r ≡ number_in s) × (count_in r ≡ count_in s) × (start_in r ≡ start_in s) × (part_in r ≡ part_in s) × (xs ≡ ys)
  one_comparison a b =
      (a.numbered ∙ sym b.numbered, a.counted ∙ sym b.counted, a.started ∙ sym b.started, a.handed ∙ sym b.handed, a.listed ∙ sym b.listed)
