-- What an offset word means, §5.1: "a signed whole number, in two's complement: from -2^63 to 2^63 - 1".
-- Assumes nothing.
use Rattle.std.specs.Prelude.{◌≡◌, cond, ℕ, ◌+◌, ◌-◌, ◌^◌, ◌≤◌, ltb}

pub data Signed : Type 0 where
  up_by : ℕ → Signed
  down_by : ℕ → Signed

unfoldable pub signed : ℕ → Signed
signed o = cond (ltb o (2 ^ 63)) (up_by o) (down_by (2 ^ 64 - o))

-- its absolute value
unfoldable pub absolute : Signed → ℕ
absolute (up_by n) = n
absolute (down_by n) = n

-- b is the true target of address a
abbrev pub Target : ℕ → Signed → ℕ → Type 0
Target a (up_by n) b = b ≡ a + n
Target a (down_by n) b = b + n ≡ a

-- the true target of the n addresses from a lies within 0 and the bound
pub record Fits (limit a n : ℕ) (o : Signed) : Type 0 where
  pub to : ℕ
  pub target : Target a o to
  pub end : to + n ≤ limit
