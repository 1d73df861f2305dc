-- An offset's number without its sign: below 2^63 it is the offset, from there on it is one below 0.
-- Assumes nothing.
use Rattle.std.proofs.Common.{◌≡◌, ℕ, ◌^◌, ◌<◌, ap, ◌∙◌, arith, unsigned_abs, to_z, of_z, w64}
use Rattle.std.proofs.lemmas.Int.{of_z-to_z}
use native.Mathlib.Decide.{dec_lt}
use borrow.Author.Tests.{lt-ltb, le-ltb}
use Rattle.definitions.specs.Ranges.{magnitude}

below_zero : (o : ℕ) → o < 2 ^ 64 → unsigned_abs (to_z w64 o) ≡ magnitude o
unfolding magnitude
below_zero o h =
    elim (dec_lt o (2 ^ 63)) [
      | yes l ↦ rw (lt-ltb o (2 ^ 63) l)
      | no l ↦ rw (le-ltb o (2 ^ 63) (omega arith)) (omega arith)
    ]

-- as `cast_signed` hands the number on
pub without_sign : (o : ℕ) → o < 2 ^ 64 → unsigned_abs (to_z w64 (of_z w64 (to_z w64 o))) ≡ magnitude o
without_sign o h = ap (λ (x : ℕ). unsigned_abs (to_z w64 x)) (of_z-to_z w64 o h) ∙ below_zero o h
