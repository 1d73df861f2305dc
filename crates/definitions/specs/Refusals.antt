-- The numbers of the refusals, and what a fallible answer of the code says in the definitions' terms.
-- Assumes nothing.
use Rattle.std.specs.Prelude.{ℕ, Result, Ok, Err}
-- the refusals by name: the code's own enum
pub use Rattle.definitions.specs.declared.refusals.Error.{Error}

-- §9.1: the number of each
abbrev pub number_of : Error → ℕ
number_of Error.Region = 1
number_of Error.PageLength = 2
number_of Error.PageGpa = 3
number_of Error.Lengths = 4
number_of Error.Cr3 = 6
number_of Error.TableOffset = 7
number_of Error.Ranges = 8
number_of Error.FreeTail = 9
number_of Error.SharedTable = 10
number_of Error.IntoMoved = 11
number_of Error.UnalignedOffset = 12
number_of Error.OutOfBounds = 13
number_of Error.SameAddress = 14
number_of Error.NoRoom = 15
number_of Error.LargeInTheWay = 16
number_of Error.WayOutside = 17
number_of Error.Occupied = 18
number_of Error.NoFreeTable = 19
number_of Error.Entry = 20
number_of Error.NotComparable = 34

-- 0 for what went well, and else the refusal's number
abbrev pub number_in : {A : Type 0} → Result A Error → ℕ
number_in (Ok a) = 0
number_in (Err e) = number_of e
