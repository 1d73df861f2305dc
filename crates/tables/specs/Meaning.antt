-- What the functions say: words of bytes that may be too short for them, and bytes that are all zero.
-- Assumes nothing.
use Rattle.std.specs.Prelude.{Bool, true, false, cond, List, [], ◌∷◌, ◌≡◌, ℕ, ◌/◌, eqb, ltb, length}
use Rattle.definitions.specs.Words.{words_of, put}

-- the word k, or 0 where the bytes do not hold it whole
unfoldable pub word_at : List ℕ → ℕ → ℕ
word_at xs k = cond (ltb k (length xs / 8)) (words_of xs k) 0

-- ys is xs with v as its word k, or xs where that does not hold it whole
pub record Written (xs ys : List ℕ) (k v : ℕ) : Type 0 where
  pub words : words_of ys ≡ cond (ltb k (length xs / 8)) (put (words_of xs) k v) (words_of xs)
  pub as_long : length ys ≡ length xs

-- whether every byte is 0
unfoldable pub all_zero : List ℕ → Bool
all_zero [] = true
all_zero (x ∷ xs) = cond (eqb x 0) (all_zero xs) false
