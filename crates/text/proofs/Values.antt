-- Laws of digits and of the values that they make.
-- Assumes nothing.
use Rattle.std.proofs.Common.{◌≡◌, ℕ, ◌+◌, ◌-◌, ◌*◌, ◌^◌, ◌<◌, ◌≤◌, List, [], ◌∷◌, length, get_or, take, drop, sym, refl, add-one, arith, length-drop, drop_of_length-le, take_all, drop-cons, le-ltb, lt-ltb, le-leb}
use Rattle.std.specs.Prelude.{None, Some}
use Rattle.std.proofs.lemmas.Bool.Decides.{nat_tests}
use native.Mathlib.Decide.{dec_lt}
use borrow.Author.Tests.{lt-leb}
use Rattle.text.specs.Hex.{digit_of, follow, at_most, digits_of}

-- a digit at place i of a text: what follows it
module _ (s : List ℕ) (i v : ℕ) (h : i < length s) where
  on : digit_of (get_or s i 0) ≤ 15 → follow v (drop i s) ≡ follow (v * 16 + digit_of (get_or s i 0)) (drop (i + 1) s)
  unfolding follow
  on d = rw (add-one, drop-cons s i 0 h, le-ltb 15 (digit_of (get_or s i 0)) d)

  off : 15 < digit_of (get_or s i 0) → follow v (drop i s) ≡ None
  unfolding follow
  off d = rw (drop-cons s i 0 h, lt-ltb 15 (digit_of (get_or s i 0)) d)

-- a value never falls as digits follow it
large : (most v : ℕ) (s : List ℕ) → most < v → at_most most (follow v s) ≡ None
unfolding follow at_most
large most v [] h = rw (lt-leb v most h)
large most v (b ∷ s) h = elim (dec_lt 15 (digit_of b)) [
  | yes l ↦ rw (lt-ltb 15 (digit_of b) l)
  | no n ↦ rw (le-ltb 15 (digit_of b) (omega arith)) (large most (v * 16 + digit_of b) s (omega arith))
]

-- a loop over a text s that has come to place i with the value v
pub record Come (s : List ℕ) (v i : ℕ) : Type 0 where
  pub within : i ≤ length s
  pub same : follow v (drop i s) ≡ follow 0 s
  pub small : v < 2 ^ 64

pub begins : (s : List ℕ) → Come s 0 0
begins s = record { within = omega arith; same = refl; small = omega arith }

module _ {s : List ℕ} {v i : ℕ} (c : Come s v i) where
  pub stops : i < length s → digit_of (get_or s i 0) ≡ 16 → None ≡ digits_of s
  unfolding digits_of at_most
  stops h e = rw (← c.same, off s i v h (omega arith))

  -- a digit at place i
  module _ {d : ℕ} (h : i < length s) (e : d ≡ digit_of (get_or s i 0)) (l : d ≤ 15) where
    pub leaves : 2 ^ 60 ≤ v → None ≡ digits_of s
    unfolding digits_of
    leaves b =
        rw (← c.same, on s i v h (omega arith))
        (sym (large (2 ^ 64 - 1) (v * 16 + digit_of (get_or s i 0)) (drop (i + 1) s) (omega arith)))

    pub again : v < 2 ^ 60 → Come s (v * 16 + d) (i + 1)
    again b = record { within = omega arith; same = rw (e, ← on s i v h (omega arith)) c.same; small = omega arith }

  pub ends : length s ≤ i → Some v ≡ digits_of s
  unfolding digits_of follow at_most
  ends h = rw (← c.same, drop_of_length-le s h, le-leb v (2 ^ 64 - 1) (omega arith))

-- a part that reaches to the end
pub rest : (s : List ℕ) (k : ℕ) → take (length s - k) (drop k s) ≡ drop k s
rest s k = take_all (length s - k) (drop k s) (omega (arith, length-drop k s))

-- what reading a text goes by
pub ruleset reads = (nat_tests, rest)
