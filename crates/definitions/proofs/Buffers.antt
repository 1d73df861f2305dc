-- The words of a buffer that was written from memory are the memory, where its words are below 2^64 and zero past the
-- buffer's end. Assumes nothing.
use mathlib.Core.Path.{◌≡◌, refl, sym, ap, ap₂, ◌∙◌, fun_ext}
use mathlib.Core.List.{List}
use Prim.Native.Nat.{ℕ, zero, suc, ◌+◌, ◌*◌, ◌/◌, ◌%◌, ◌^◌, ◌<◌}
use native.Mathlib.Nat.{mod-one, zero-add, add-zero, div-one, div-eq_of_lt}
use native.Mathlib.Decide.{dec_lt}
use native.Mathlib.Omega.{arith}
use lib.ListN.{get_or, get_or-eq_default}
use Rattle.definitions.specs.Words.{Mem, number, words_of, byte_of, bytes_of}
use Rattle.definitions.proofs.Numbers.{suc_across, div_digit, bytes_pos, mod_byte}
use Rattle.definitions.proofs.Words.{length_bytes, bytes_at}

-- a number whose bytes are those of v
number_of_bytes : (n : ℕ) (xs : List ℕ) (p v : ℕ) → ((i : ℕ) → i < n → get_or xs (p + i) 0 ≡ v / 256 ^ i % 256) → number n xs p ≡ v % 256 ^ n
unfolding number
number_of_bytes zero xs p v h = sym (mod-one v)
number_of_bytes (suc n) xs p v h =
    ap₂ (λ (x y : ℕ). x + 256 * y) first (number_of_bytes n xs (suc p) (v / 256) later)
    ∙ sym (mod_byte v n)
  where
    first : get_or xs p 0 ≡ v % 256
    first = ap (λ (k : ℕ). get_or xs k 0) (sym (add-zero p)) ∙ h 0 (omega arith) ∙ ap (λ (x : ℕ). x % 256) (div-one v)

    later : (i : ℕ) → i < n → get_or xs (suc p + i) 0 ≡ v / 256 / 256 ^ i % 256
    later i l =
        ap (λ (k : ℕ). get_or xs k 0) (suc_across p i) ∙ h (suc i) (omega arith)
        ∙ ap (λ (x : ℕ). x % 256) (div_digit 256 v i)

module _ (n : ℕ) (m : Mem) (low : (k : ℕ) → m k < 2 ^ 64) (past : (k : ℕ) → n < 8 * k + 8 → m k ≡ 0) where
  byte_at : (i : ℕ) → get_or (bytes_of n m) i 0 ≡ byte_of m i
  unfolding bytes_of byte_of
  byte_at i =
      elim (dec_lt i n) [
        | yes d ↦ bytes_at n 0 m i d ∙ ap (byte_of m) (zero-add i)
        | no d ↦
            get_or-eq_default (bytes_of n m) 0 {n = i} (omega (arith, length_bytes n 0 m))
            ∙ sym (ap (λ (x : ℕ). x / 256 ^ (i % 8) % 256) (past (i / 8) (omega arith))
            ∙ ap (λ (x : ℕ). x % 256) (div-eq_of_lt (bytes_pos (i % 8))))
      ]

  pub words_bytes : words_of (bytes_of n m) ≡ m
  unfolding words_of byte_of
  words_bytes = fun_ext λ k. number_of_bytes 8 (bytes_of n m) (8 * k) (m k) (λ i h.
      let ek : (8 * k + i) / 8 ≡ k = omega arith in
      let ei : (8 * k + i) % 8 ≡ i = omega arith in
      byte_at (8 * k + i) ∙ rw (ek, ei) refl) ∙ omega (arith, low k)
