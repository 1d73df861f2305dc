-- What writing bytes promises.
-- Assumes nothing.
use Rattle.std.specs.Prelude.{◌≡◌, List, ℕ, length}
use Rattle.definitions.specs.Words.{put, words_of}

-- ys is xs with v at word k
abbrev pub Stores : List ℕ → ℕ → ℕ → List ℕ → Type 0
Stores xs k v ys = (words_of ys ≡ put (words_of xs) k v) × (length ys ≡ length xs)
