-- A refusal is its number: no number is 0, and each is one refusal's.
-- Assumes nothing.
use mathlib.Core.Path.{◌≡◌, refl, sym, ap, ◌∙◌}
use Rattle.std.specs.Prelude.{◌<◌, ℕ, if◌then◌else◌, ◌==◌}
use Rattle.std.proofs.Common.{arith}
use Rattle.definitions.specs.declared.refusals.Error.{Error}
use Rattle.definitions.specs.Refusals.{number_of}

-- every number is above 0
pub numbered : (e : Error) → 0 < number_of e
numbered Error.Region = omega arith
numbered Error.PageLength = omega arith
numbered Error.PageGpa = omega arith
numbered Error.Lengths = omega arith
numbered Error.Cr3 = omega arith
numbered Error.TableOffset = omega arith
numbered Error.Ranges = omega arith
numbered Error.FreeTail = omega arith
numbered Error.SharedTable = omega arith
numbered Error.IntoMoved = omega arith
numbered Error.UnalignedOffset = omega arith
numbered Error.OutOfBounds = omega arith
numbered Error.SameAddress = omega arith
numbered Error.NoRoom = omega arith
numbered Error.LargeInTheWay = omega arith
numbered Error.WayOutside = omega arith
numbered Error.Occupied = omega arith
numbered Error.NoFreeTable = omega arith
numbered Error.Entry = omega arith
numbered Error.NotComparable = omega arith

-- the refusal of a number
abbrev error_of : ℕ → Error
error_of n =
    if n == 1 then Error.Region
    else if n == 2 then Error.PageLength
    else if n == 3 then Error.PageGpa
    else if n == 4 then Error.Lengths
    else if n == 6 then Error.Cr3
    else if n == 7 then Error.TableOffset
    else if n == 8 then Error.Ranges
    else if n == 9 then Error.FreeTail
    else if n == 10 then Error.SharedTable
    else if n == 11 then Error.IntoMoved
    else if n == 12 then Error.UnalignedOffset
    else if n == 13 then Error.OutOfBounds
    else if n == 14 then Error.SameAddress
    else if n == 15 then Error.NoRoom
    else if n == 16 then Error.LargeInTheWay
    else if n == 17 then Error.WayOutside
    else if n == 18 then Error.Occupied
    else if n == 19 then Error.NoFreeTable
    else if n == 20 then Error.Entry
    else Error.NotComparable

round : (e : Error) → error_of (number_of e) ≡ e
round Error.Region = refl
round Error.PageLength = refl
round Error.PageGpa = refl
round Error.Lengths = refl
round Error.Cr3 = refl
round Error.TableOffset = refl
round Error.Ranges = refl
round Error.FreeTail = refl
round Error.SharedTable = refl
round Error.IntoMoved = refl
round Error.UnalignedOffset = refl
round Error.OutOfBounds = refl
round Error.SameAddress = refl
round Error.NoRoom = refl
round Error.LargeInTheWay = refl
round Error.WayOutside = refl
round Error.Occupied = refl
round Error.NoFreeTable = refl
round Error.Entry = refl
round Error.NotComparable = refl

-- two refusals with one number are one
pub one_error : (e f : Error) → number_of e ≡ number_of f → e ≡ f
one_error e f h = sym (round e) ∙ (ap error_of h ∙ round f)
