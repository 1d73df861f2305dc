-- Adding an offset word modulo 2^64 moves by the signed number that it means, up and down, below any bound up to 2^63.
-- The offsets that the ranges give are words. Assumes nothing.
use mathlib.Core.Path.{◌≡◌, refl, sym, ap, ap₂, ◌∙◌}
use mathlib.Core.Bool.{Bool, true, false, cond}
use mathlib.Core.Logic.{◌↔◌}
use mathlib.Core.List.{List, [], ◌∷◌}
use Prim.Native.Nat.{ℕ, suc, ◌+◌, ◌-◌, ◌*◌, ◌/◌, ◌%◌, ◌^◌, ◌≤◌, ◌<◌}
use native.Mathlib.Decide.{dec_le}
use native.Mathlib.Omega.{arith}
use lib.Arith.{digits_mod}
use lib.Dec.{ltb, eqb}
use lib.ListN.{get_or}
use lib.Pow.{mod-mod-pow}
use borrow.Author.Tests.{ltb-true, ltb-false, eq-eqb, le-leb}
use Rattle.definitions.specs.Geometry.{span}
use Rattle.definitions.specs.Inputs.{Region, Range}
use Rattle.definitions.specs.Ranges.{shifted, magnitude, offset_ok, ranges_of, joined, deciding, touches, touching, stay, shift, by_offset, verdict, decide}
use Rattle.definitions.specs.Offset.{up_by, down_by, signed, absolute, Target, Fits}
use Rattle.definitions.proofs.Numbers.{multiple}
use Rattle.definitions.proofs.Geometry.{span_pos, span_pow}
use Rattle.definitions.proofs.Splits.{on_bool, impossible}
use Rattle.definitions.proofs.Ranges.{offset_sound}

-- how far an offset moves is its absolute value
pub magnitude_absolute : (o : ℕ) → magnitude o ≡ absolute (signed o)
unfolding magnitude signed absolute
magnitude_absolute o = turn (ltb o (2 ^ 63))
  where
    turn : (b : Bool) → cond b o (2 ^ 64 - o) ≡ absolute (cond b (up_by o) (down_by (2 ^ 64 - o)))
    turn true = refl
    turn false = refl

-- an address and an offset of whole spans give one of whole spans, at every level that leaves have
pub shifted_whole : (l a o : ℕ) → l < 3 → a % span l ≡ 0 → o % span l ≡ 0 → shifted a o % span l ≡ 0
unfolding shifted
shifted_whole l a o h p q =
    let u : span l ≡ 2 ^ (12 + 9 * l) = span_pow l in
    let bits : 52 - 9 * l + (12 + 9 * l) ≡ 64 = omega arith in
    ap₂ (λ (n k : ℕ). (a + o) % 2 ^ n % k) (sym bits) u ∙ mod-mod-pow (a + o) (52 - 9 * l) (12 + 9 * l)
    ∙ ap (λ (n : ℕ). (a + o) % n) (sym u) ∙ ap (λ (n : ℕ). n % span l) sum ∙ digits_mod (a / span l + o / span l) (span_pos l)
  where
    sum : a + o ≡ (a / span l + o / span l) * span l + 0
    sum = ap₂ ◌+◌ (multiple (span l) a p) (multiple (span l) o q) ∙ omega arith

-- an address a and an offset word o
module _ (a o : ℕ) (low : a < 2 ^ 63) (word : o < 2 ^ 64) where
  -- by the direction of the offset
  on_sign : {B : Type 0} → (o < 2 ^ 63 → signed o ≡ up_by o → B) → (2 ^ 63 ≤ o → signed o ≡ down_by (2 ^ 64 - o) → B) → B
  unfolding signed
  on_sign {B} f g = turn (ltb o (2 ^ 63)) refl
    where
      turn : (b : Bool) → ltb o (2 ^ 63) ≡ b → B
      turn true e = f (ltb-true _ _ e) (rw e refl)
      turn false e = g (ltb-false _ _ e) (rw e refl)

  pub shifted_target : (b : ℕ) → Target a (signed o) b → shifted a o ≡ b
  unfolding shifted
  shifted_target b = on_sign (λ h e. rw e (λ t. omega arith)) (λ h e. rw e (λ t. omega arith))

  -- there is a true target, or the sum shows as 2^63 or more
  pub target_shifted : shifted a o < 2 ^ 63 → Target a (signed o) (shifted a o)
  unfolding shifted
  target_shifted = on_sign (λ h e. rw e (λ s. omega arith)) (λ h e. rw e (λ s. omega arith))

  module _ (limit : ℕ) (most : limit ≤ 2 ^ 63) where
    -- what the sum shows of the n addresses from a is what is true of them
    pub fits_iff : (n : ℕ) → 0 < n → (shifted a o + n ≤ limit) ↔ Fits limit a n (signed o)
    fits_iff n pos = (
      (λ h. record { to = shifted a o; target = target_shifted (omega arith); end = h }),
      λ f. rw (shifted_target f.to f.target) f.end,
    )

    -- the rule of number 13
    pub past_iff : (n : ℕ) → 0 < n → (limit < shifted a o + n) ↔ (¬ Fits limit a n (signed o))
    past_iff n pos = (
      (λ h f. omega (arith, (fits_iff n pos).1 f)),
      λ out. elim (dec_le (shifted a o + n) limit) [ yes d ↦ absurd (out ((fits_iff n pos).0 d)) | no d ↦ omega arith ],
    )

    -- of one address: a true target outside 0 to the bound shows as the bound or more, and no other does
    pub outside_iff : (limit ≤ shifted a o) ↔ (¬ Fits limit a 1 (signed o))
    outside_iff = ((λ h. (past_iff 1 (omega arith)).0 (omega arith)), λ out. omega (arith, (past_iff 1 (omega arith)).1 out))

-- the rule of number 7, in true numbers: whole tables, and the moved region within 0 and the bound
pub offset_ok_iff : (limit : ℕ) → limit ≤ 2 ^ 63 → (r : Region) → r.gpa < 2 ^ 63 → 0 < r.size
    → (o : ℕ) → o < 2 ^ 64 → (offset_ok limit r o ≡ true) ↔ ((o % 4096 ≡ 0) × Fits limit r.gpa r.size (signed o))
unfolding offset_ok
offset_ok_iff limit most r low pos o word =
    let fits = fits_iff r.gpa o low word limit most r.size pos in (
      (λ h. let c = offset_sound limit r o h in (c.0, fits.0 c.1)),
      λ f. rw (eq-eqb (o % 4096) 0 f.0, le-leb (shifted r.gpa o + r.size) limit (fits.1 f.1)) refl,
    )

-- ---- the offsets of the ranges are words

abbrev pub Offsets : List Range → Type 0
Offsets [] = Unit {0}
Offsets (r ∷ rs) = (r.offset < 2 ^ 64) × Offsets rs

ranges_offsets : (ws : List ℕ) → ((i : ℕ) → get_or ws i 0 < 2 ^ 64) → Offsets (ranges_of ws)
unfolding ranges_of
ranges_offsets [] h = tt
ranges_offsets (a ∷ []) h = tt
ranges_offsets (a ∷ b ∷ []) h = tt
ranges_offsets (a ∷ b ∷ c ∷ ws) h = (h 2, ranges_offsets ws (λ i. h (suc (suc (suc i)))))

joined_offsets : (x : Range) (rs : List Range) → x.offset < 2 ^ 64 → Offsets rs → Offsets (joined x rs)
unfolding joined
joined_offsets x [] h hs = (h, tt)
joined_offsets x (r ∷ rs) h hs = on_bool (ltb x.first r.first) (λ e. rw e (hs.0, joined_offsets x rs h hs.1)) (λ e. rw e (h, hs))

pub deciding_offsets : (g : Region) (o : ℕ) (ws : List ℕ) → o < 2 ^ 64 → ((i : ℕ) → get_or ws i 0 < 2 ^ 64) → Offsets (deciding g o (ranges_of ws))
unfolding deciding
deciding_offsets g o ws ho h = on_bool (eqb o 0) (λ e. rw e (joined_offsets _ (ranges_of ws) ho (ranges_offsets ws h))) (λ e. rw e (ranges_offsets ws h))

touching_offsets : (a n : ℕ) (rs : List Range) → Offsets rs → Offsets (touching a n rs)
unfolding touching
touching_offsets a n [] hs = tt
touching_offsets a n (r ∷ rs) hs = let ih = touching_offsets a n rs hs.1 in on_bool (touches a n r) (λ e. rw e ih) (λ e. rw e (hs.0, ih))

verdict_offset : (n : ℕ) (rs : List Range) → Offsets rs → (o : ℕ) → verdict n rs ≡ shift o → o < 2 ^ 64
unfolding verdict by_offset
verdict_offset n [] hs o w = impossible (cc)
verdict_offset n (r ∷ rs) hs o w =
    on_bool (ltb (magnitude r.offset) n)
    (λ e. let d : shift r.offset ≡ shift o = rw e at w in let z : r.offset ≡ o = cc in omega (arith, hs.0))
    (λ e. let d : stay ≡ shift o = rw e at w in impossible (cc))

pub decide_offset : (rs : List Range) → Offsets rs → (l a o : ℕ) → decide rs l a ≡ shift o → o < 2 ^ 64
unfolding decide
decide_offset rs hs l a o w = verdict_offset (span l) (touching a (span l) rs) (touching_offsets a (span l) rs hs) o w
