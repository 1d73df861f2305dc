-- What a text says: a number in hexadecimal, or nothing.
-- Assumes nothing.
use Rattle.std.specs.Prelude.{ℕ, ◌+◌, ◌-◌, ◌*◌, ◌%◌, ◌^◌, Bool, false, cond, List, [], ◌∷◌, length, drop, ◌==◌, nat_le, nat_lt, slice_index, Option, None, Some}

-- what a byte counts: 0 to 9, A to F or a to f; 16 for any other
unfoldable pub digit_of : ℕ → ℕ
digit_of b =
    cond (nat_lt b 48) 16
    (cond (nat_lt b 58) (b - 48)
    (cond (nat_lt b 65) 16
    (cond (nat_lt b 71) (b - 55)
    (cond (nat_lt b 97) 16
    (cond (nat_lt b 103) (b - 87) 16)))))

-- the value of digits that follow others worth v, however many there are
unfoldable pub follow : ℕ → List ℕ → Option ℕ
follow v [] = Some v
follow v (b ∷ s) = cond (nat_lt 15 (digit_of b)) None (follow (v * 16 + digit_of b) s)

-- a value that is at most a bound
unfoldable pub at_most : ℕ → Option ℕ → Option ℕ
at_most most None = None
at_most most (Some v) = cond (nat_le v most) (Some v) None

-- digits, worth less than 2^64
unfoldable pub digits_of : List ℕ → Option ℕ
digits_of s = at_most (2 ^ 64 - 1) (follow 0 s)

-- 0x, and more follows
unfoldable pub prefixed_of : List ℕ → Bool
prefixed_of s = cond (nat_le (length s) 2) false (cond (slice_index s 0 == 48) (slice_index s 1 == 120) false)

-- after 0x, or from the start
unfoldable pub hex_of : List ℕ → Option ℕ
hex_of s = cond (length s == 0) None (cond (prefixed_of s) (digits_of (drop 2 s)) (digits_of s))

-- the word that, with a magnitude added, is 0 modulo 2^64
abbrev pub negated : Option ℕ → Option ℕ
negated None = None
negated (Some m) = Some ((2 ^ 64 - m) % 2 ^ 64)

-- after '-' a magnitude of at most 2^63, in two's complement
unfoldable pub signed_of : List ℕ → Option ℕ
signed_of s =
    cond (length s == 0) None
    (cond (slice_index s 0 == 45) (negated (at_most (2 ^ 63) (hex_of (drop 1 s)))) (hex_of s))

-- 0x, and more follows, after '-' too
unfoldable pub marked_of : List ℕ → Bool
marked_of s =
    cond (length s == 0) false
    (cond (slice_index s 0 == 45) (prefixed_of (drop 1 s)) (prefixed_of s))
