-- Numerals have the fewest digits, and texts put into a buffer one after the other are one text.
-- Assumes nothing.
use Rattle.std.proofs.Common.{◌≡◌, ℕ, zero, suc, ◌+◌, ◌-◌, ◌*◌, ◌/◌, ◌^◌, ◌<◌, ◌≤◌, List, [], ◌∷◌, ◌++◌, length, take, drop, set, sym, refl, ap, ◌∙◌, ap₂, append_assoc, div-lt_iff_lt-mul, one-mul, pow-suc, le-div_iff_mul-le, add-one, arith, length-append, drop-drop, le-ltb, lt-ltb}
use native.Mathlib.Nat.{pow-zero, pow-le-pow_right, div-lt_self}
use native.Mathlib.Decide.{dec_lt}
use lib.Seq.{paste, length-paste, take-length, take-paste, drop-paste, set_split, append_snoc}
use Rattle.io.specs.Digits.{last_digits, IsDigitCount}
use Rattle.compare_files.specs.Text.{places_to, numeral, field}
use Rattle.compare_files.specs.Meaning.{Puts}

-- ---- numerals

module _ (b : ℕ) (large : 1 < b) where
  power_next : (k : ℕ) → 1 ≤ k → b ^ (k - 1) * b ≡ b ^ k
  power_next k h = sym (pow-suc b (k - 1)) ∙ ap (λ (j : ℕ). b ^ j) (omega arith)

  power_one : b ^ 1 ≡ b
  power_one = pow-suc b 0 ∙ rw (pow-zero b) (one-mul b)

  power_above : (k : ℕ) → 1 ≤ k → b ≤ b ^ k
  power_above k h = omega (arith, power_one, pow-le-pow_right {n = b} (omega arith) {i = 1} {j = k} h)

  one_digit : (n k : ℕ) → n < b → IsDigitCount b 1 n k → k ≡ 1
  one_digit n k h f = elim (dec_lt 1 k) [
    | yes l ↦ absurd (omega (arith, f.2 l, power_above (k - 1) (omega arith)))
    | no m ↦ omega arith
  ]

  pub few : (m n k : ℕ) → 1 ≤ m → n < b ^ m → IsDigitCount b 1 n k → k ≤ m
  few m n k h l f = elim (dec_lt m k) [
    | yes g ↦ absurd (omega (arith, f.2 (omega arith), pow-le-pow_right {n = b} (omega arith) {i = m} {j = k - 1} (omega arith)))
    | no g ↦ omega arith
  ]

  only : {k : ℕ} → 1 ≤ k → ¬ (1 < k) → k ≡ 1
  only l m = omega arith

  -- without its last digit a number has one digit less
  one_less : (n k : ℕ) → b ≤ n → IsDigitCount b 1 n k → IsDigitCount b 1 (n / b) (k - 1)
  one_less n k h f = elim (dec_lt 1 k) [
    | yes l ↦ (
      omega arith,
      (div-lt_iff_lt-mul {k = b} (omega arith)).1 (omega (arith, power_next k (omega arith))),
      λ m. (le-div_iff_mul-le {k = b} (omega arith)).1 (omega (arith, power_next (k - 1) (omega arith), f.2 l)),
    )
    | no m ↦ absurd (omega (arith, power_one, f.1, ap (λ (j : ℕ). b ^ j) (only f.0 m)))
  ]

  -- the fewest digits that hold n are so many
  pub places : (most n k : ℕ) → n ≤ most → IsDigitCount b 1 n k → k ≡ places_to most b n
  unfolding places_to
  places zero n k l f = one_digit n k (omega arith) f
  places (suc most) n k l f = elim (dec_lt n b) [
    | yes h ↦ rw (lt-ltb n b h) (one_digit n k h f)
    | no h ↦
        let less = one_less n k (omega arith) f in
        let rest = places most (n / b) (k - 1) (omega (arith, div-lt_self {n = n} {k = b} (omega arith) large)) less in
        rw (le-ltb n b (omega arith)) (omega (arith, rest, f.0))
  ]

pub spelled : (b n k : ℕ) (xs : List ℕ) → 1 < b → IsDigitCount b 1 n k → xs ≡ last_digits b k n → xs ≡ numeral b n
unfolding numeral
spelled b n k xs h f e = e ∙ ap (λ (j : ℕ). last_digits b j n) (places b h n n k (omega arith) f)

-- ---- texts in a buffer

paste_twice : (d : List ℕ) (at : ℕ) (s t : List ℕ) → at + length s ≤ length d
    → paste (paste d at s (length s)) (at + length s) t (length t) ≡ paste d at (s ++ t) (length (s ++ t))
paste_twice d at s t h =
    let e = paste d at s (length s) in
    let kept : take (at + length s) e ≡ take at d ++ s =
    take-paste d at s (length s) (omega arith) (omega arith) ∙ ap (λ (xs : List ℕ). take at d ++ xs) (take-length s) in
    let same : at + length s + length t ≡ at + length (s ++ t) = omega (arith, length-append s t) in
    let rest : drop (at + length s + length t) e ≡ drop (at + length (s ++ t)) d =
    sym (drop-drop (length t) (at + length s) e) ∙ ap (drop (length t)) (drop-paste d at s (length s) (omega arith) (omega arith))
    ∙ drop-drop (length t) (at + length s) d ∙ ap (λ (k : ℕ). drop k d) same in
    rw (kept, rest, take-length t, take-length (s ++ t)) (simp append_assoc)

pub puts_length : {m at r : ℕ} {d s e : List ℕ} → at + m ≤ length d → Puts m d at s e r → length e ≡ length d
puts_length {m} {at} {r} {d} {s} h p = ap length p.text ∙ length-paste d at s (length s) (omega (arith, p.short)) (omega arith)

pub puts_byte : (e : List ℕ) (r v : ℕ) → r < length e → Puts 1 e r (v ∷ []) (set e r v) (r + 1)
puts_byte e r v h =
    record {
      text = set_split e r v h ∙ rw add-one (sym (append_snoc (take r e) v (drop (suc r) e)));
      next = refl;
      short = omega arith;
    }

pub joins : {m n at r q : ℕ} {d s e t f : List ℕ} → at + m ≤ length d → Puts m d at s e r → Puts n e r t f q
    → Puts (m + n) d at (s ++ t) f q
joins {m} {n} {at} {r} {q} {d} {s} {e} {t} {f} h x y =
    record {
      text =
          y.text ∙ ap₂ (λ (xs : List ℕ) (k : ℕ). paste xs k t (length t)) x.text x.next
          ∙ paste_twice d at s t (omega (arith, x.short));
      next = omega (arith, x.next, y.next, length-append s t);
      short = omega (arith, x.short, y.short, length-append s t);
    }

-- digits and a byte, put as they are spelled
pub puts_field : {d e : List ℕ} {at r : ℕ} (b n k most end : ℕ) (xs : List ℕ) → 1 < b → IsDigitCount b 1 n k
    → xs ≡ last_digits b k n → length xs < most → Puts (length xs + 1) d at (xs ++ end ∷ []) e r
    → Puts most d at (field b n end) e r
unfolding field
puts_field b n k most end xs h f s l p =
    rw (← spelled b n k xs h f s) (record { text = p.text; next = p.next; short = omega (arith, p.short) })
