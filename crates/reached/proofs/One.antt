-- What the promises allow is one outcome: eight 64-bit words that hold the same set are the same words.
-- Assumes nothing.
use mathlib.Core.Path.{◌≡◌, refl, sym, ap, ◌∙◌}
use mathlib.Core.Bool.{Bool, true, false}
use mathlib.Core.List.{List}
use Prim.Native.Nat.{ℕ, zero, suc, ◌+◌, ◌*◌, ◌/◌, ◌%◌, ◌^◌, ◌<◌}
use native.Mathlib.Nat.{pow-suc, mul_comm, div-one, div-div-eq-div-mul}
use native.Mathlib.Omega.{arith}
use lib.Dec.{eqb}
use lib.ListN.{length, get_or}
use lib.Seq.{ext_get_or}
use Rattle.definitions.specs.Words.{Tables, no_tables}
use Rattle.reached.specs.Held.{bit, bits, set_of, marked}
use Rattle.reached.specs.Promises.{Empty, Asks, Marks, MarksAndAsks, Counts}
use Rattle.reached.proofs.Laws.{bit_at}
use Rattle.reached.specs.declared.Reached.{Reached}

-- what a [u64; 8] is
pub record Words (ws : List ℕ) : Type 0 where
  pub long : length ws ≡ 8
  pub fits : (i : ℕ) → get_or ws i 0 < 2 ^ 64

same_bit : (x y : ℕ) → x < 2 → y < 2 → eqb x 1 ≡ eqb y 1 → x ≡ y
same_bit zero zero h k e = refl
same_bit zero (suc zero) h k e = let z : false ≡ true = e in cc
same_bit (suc zero) zero h k e = let z : true ≡ false = e in cc
same_bit (suc zero) (suc zero) h k e = refl
same_bit zero (suc (suc y)) h k e = absurd (omega arith)
same_bit (suc zero) (suc (suc y)) h k e = absurd (omega arith)
same_bit (suc (suc x)) y h k e = absurd (omega arith)

-- bit 0, and the bits of the half
bit_zero : (x : ℕ) → eqb (x % 2) 1 ≡ bit x 0
bit_zero x = ap (λ (m : ℕ). eqb (m % 2) 1) (sym (div-one x))

bit_half : (x j : ℕ) → bit (x / 2) j ≡ bit x (suc j)
bit_half x j =
    ap (λ (m : ℕ). eqb (m % 2) 1)
    (div-div-eq-div-mul x 2 (2 ^ j) ∙ ap (λ (p : ℕ). x / p) (mul_comm 2 (2 ^ j) ∙ sym (pow-suc 2 j)))

same_number : (n x y : ℕ) → x < 2 ^ n → y < 2 ^ n → ((k : ℕ) → k < n → bit x k ≡ bit y k) → x ≡ y
same_number zero x y h k e = omega arith
same_number (suc n) x y h k e =
    let low : x % 2 ≡ y % 2 =
    same_bit (x % 2) (y % 2) (omega arith) (omega arith) (bit_zero x ∙ e 0 (omega arith) ∙ sym (bit_zero y)) in
    let high : x / 2 ≡ y / 2 =
    same_number n (x / 2) (y / 2) (omega (arith, pow-suc 2 n)) (omega (arith, pow-suc 2 n))
    (λ j l. bit_half x j ∙ e (suc j) (omega arith) ∙ sym (bit_half y j)) in
    omega arith

same_words_lem : (ws vs : List ℕ) → Words ws → Words vs → bits ws ≡ bits vs → ws ≡ vs
same_words_lem ws vs w v e =
    ext_get_or 0 ws vs (w.long ∙ sym v.long)
    (λ i l. same_number 64 (get_or ws i 0) (get_or vs i 0) (w.fits i) (v.fits i)
    (λ j k. sym (bit_at ws i j k) ∙ ap (λ (s : Tables). s (64 * i + j)) e ∙ bit_at vs i j k))

-- the set that is held leaves one struct
module _ (r s : Reached) (w : Words r.words) (v : Words s.words) where
  pub one_set : (x : Tables) → set_of r ≡ x → set_of s ≡ x → r ≡ s
  one_set x p q = ap (λ (ws : List ℕ). held ws) (same_words_lem r.words s.words w v (p ∙ sym q))
    where
      held : List ℕ → Reached
      held ws = record { words = ws }

  pub one_none : Empty r → Empty s → r ≡ s
  one_none = one_set no_tables

  pub one_mark : (x : Reached) (i : ℕ) → Marks x i r → Marks x i s → r ≡ s
  one_mark x i = one_set (marked (set_of x) i)

  pub one_mark_and_ask : (x : Reached) (i : ℕ) (a b : Bool) → MarksAndAsks x i r a → MarksAndAsks x i s b → (r ≡ s) × (a ≡ b)
  one_mark_and_ask x i a b p q = (one_mark x i p.0 q.0, p.1 ∙ sym q.1)

pub one_ask : (x : Reached) (i : ℕ) (r s : Bool) → Asks x i r → Asks x i s → r ≡ s
one_ask x i r s p q = p ∙ sym q

pub one_count : (x : Reached) (r s : ℕ) → Counts x r → Counts x s → r ≡ s
one_count x r s p q = p.0 ∙ sym q.0
