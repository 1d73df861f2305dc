-- What splitting a mask promises.
-- Assumes nothing.
use Rattle.std.specs.Prelude.{◌≡◌, ℕ, length}
use Rattle.definitions.specs.Mask.{masks}
use Rattle.masks.specs.Padded.{padded}
use Rattle.masks.specs.declared.Split.{Split}

-- r holds the mask's single bits, filled up to 32, and their count
pub record Splits (mask : ℕ) (r : Split) : Type 0 where
  pub bits_are : r.bits ≡ padded 32 (masks mask)
  pub count_is : r.count ≡ length (masks mask)
