-- Laws of numbers: sums, multiples, and one digit more in a base.
-- Assumes nothing.
use mathlib.Core.Path.{◌≡◌, sym, ap, ◌∙◌}
use Prim.Native.Nat.{ℕ, suc, ◌+◌, ◌*◌, ◌/◌, ◌%◌, ◌^◌, ◌<◌}
use native.Mathlib.Nat.{add-zero, div-add-mod', div-div-eq-div-mul, one-le-pow, pow-suc, pow-succ', zero-lt-suc}
use native.Mathlib.Omega.{arith}
use lib.Arith.{mod-mul}

pub suc_across : (a b : ℕ) → suc a + b ≡ a + suc b
suc_across a b = omega arith

pub multiple : (u a : ℕ) → a % u ≡ 0 → a ≡ a / u * u
multiple u a h = sym (div-add-mod' a u) ∙ ap (λ (n : ℕ). a / u * u + n) h ∙ add-zero (a / u * u)

pub div_digit : (b v n : ℕ) → v / b ^ suc n ≡ v / b / b ^ n
div_digit b v n = ap (λ (x : ℕ). v / x) (pow-succ' b n) ∙ sym (div-div-eq-div-mul v b (b ^ n))

-- in base 256
pub bytes_pos : (n : ℕ) → 0 < 256 ^ n
bytes_pos n = one-le-pow n 256 (zero-lt-suc 255)

pub mod_byte : (v n : ℕ) → v % 256 ^ suc n ≡ v % 256 + 256 * (v / 256 % 256 ^ n)
mod_byte v n = ap (λ (x : ℕ). v % x) (pow-suc 256 n) ∙ mod-mul v (bytes_pos n) (zero-lt-suc 255) ∙ omega arith
