-- How a load ends (load_ends), read back from the definition: refused or without a page it leaves the image as it was, else
-- the page is put in, which changes the page's bytes alone (put_length, put_inside, put_elsewhere). Builds on Kind and Ranges.
-- Assumes nothing.
use mathlib.Core.Path.{◌≡◌, refl, sym, ap, ◌∙◌}
use mathlib.Core.Bool.{Bool, true, false, cond, ◌||◌}
use mathlib.Core.List.{List, ◌++◌}
use mathlib.Core.Logic.{◌⊎◌, inl, inr, ⊎_elim}
use Prim.Native.Nat.{ℕ, ◌+◌, ◌-◌, ◌%◌, ◌≤◌, ◌<◌}
use native.Mathlib.Omega.{arith}
use lib.ListN.{length, get_or, take, drop, get_or-append}
use lib.Seq.{paste, length-paste, length_paste_head, length-take-le, get_or-take, get_or-drop, get_or-append-add}
use borrow.Author.Tests.{eqb-true, leb-false, not-false}
use Rattle.definitions.specs.Geometry.{Geometry}
use Rattle.definitions.specs.Inputs.{Region}
use Rattle.definitions.specs.Load.{Loaded, loaded, load}
use Rattle.definitions.proofs.Kind.{within_bounds}
use Rattle.definitions.proofs.Ranges.{region_sound}

-- the page is a whole one, lies within the image, and is put in there
pub record PutIn (r : Region) (image : List ℕ) (gpa : ℕ) (page after : List ℕ) : Type 0 where
  pub whole : length page ≡ 4096
  pub low : r.gpa ≤ gpa
  pub high : gpa - r.gpa + 4096 ≤ length image
  pub pasted : after ≡ paste image (gpa - r.gpa) page 4096

abbrev pub LoadEnds : Region → List ℕ → ℕ → List ℕ → Loaded → Type 0
LoadEnds r image gpa page l =
    ((¬ (l.number ≡ 0)) × (l.image ≡ image))
    ⊎ ((l.number ≡ 0) × (length page ≡ 0) × (l.image ≡ image))
    ⊎ ((l.number ≡ 0) × PutIn r image gpa page l.image)

or_false : (a b : Bool) → (a || b) ≡ false → (a ≡ false) × (b ≡ false)
or_false false b h = (refl, h)
or_false true b h = (h, ap (λ (x : Bool). cond x b false) h)

on_cond : (P : Loaded → Type 0) (b : Bool) (x y : Loaded) → (b ≡ true → P x) → (b ≡ false → P y) → P (cond b x y)
on_cond P true x y f g = f refl
on_cond P false x y f g = g refl

module _ (g : Geometry) (r : Region) (image : List ℕ) (gpa : ℕ) (page : List ℕ) where
  abbrev P : Loaded → Type 0
  P = LoadEnds r image gpa page

  refuses : (n : ℕ) → ¬ (n ≡ 0) → P (loaded n image)
  refuses n h = inl (h, refl)

  pub load_ends : P (load g r image gpa page)
  unfolding load
  load_ends =
      on_cond P _ _ _ (λ e. refuses 1 (omega arith)) (λ region.
      on_cond P _ _ _ (λ e. refuses 4 (omega arith)) (λ long.
      on_cond P _ _ _ (λ e. inr (inl (refl, eqb-true _ _ e, refl))) (λ some.
      on_cond P _ _ _ (λ e. refuses 2 (omega arith)) (λ full.
      on_cond P _ _ _ (λ e. refuses 3 (omega arith)) (λ inside.
      on_cond P _ _ _ (λ e. refuses 9 (omega arith)) (λ used.
      let s = region_sound g.limit r (not-false _ region) in
      let c = or_false _ _ inside in
      let low : r.gpa ≤ gpa = (within_bounds r gpa (not-false _ c.0)).0 in
      let length_is : length image ≡ r.used = eqb-true _ _ (not-false _ long) in
      let aligned : gpa % 4096 ≡ 0 = eqb-true _ _ (not-false _ c.1) in
      let below : gpa - r.gpa < r.used = leb-false _ _ used in
      inr (inr (
        refl,
        record {
          whole = eqb-true _ _ (not-false _ full);
          low = low;
          high = omega (arith, s.gpa, s.used);
          pasted = refl;
        },
      ))))))))

-- ---- what a page that was put in changes
module _ {r : Region} {image : List ℕ} {gpa : ℕ} {page after : List ℕ} (p : PutIn r image gpa page after) where
  abbrev at : ℕ
  at = gpa - r.gpa

  pub put_length : length after ≡ length image
  put_length = ap length p.pasted ∙ length-paste image at page 4096 p.high (omega (arith, p.whole))

  abbrev front : List ℕ
  front = take at image ++ take 4096 page

  front_length : length front ≡ at + 4096
  front_length = length_paste_head image at page 4096 (omega (arith, p.high)) (omega (arith, p.whole))

  first_length : length (take at image) ≡ at
  first_length = length-take-le at image (omega (arith, p.high))

  in_front : (i : ℕ) → i < at + 4096 → get_or after i 0 ≡ get_or front i 0
  in_front i h = ap (λ (xs : List ℕ). get_or xs i 0) p.pasted ∙ get_or-append front (drop (at + 4096) image) 0 i (omega (arith, front_length))

  -- its bytes stand there
  pub put_inside : (i : ℕ) → i < 4096 → get_or after (gpa - r.gpa + i) 0 ≡ get_or page i 0
  put_inside i h =
      in_front (at + i) (omega arith)
      ∙ ap (λ (k : ℕ). get_or front (k + i) 0) (sym first_length)
      ∙ get_or-append-add (take at image) (take 4096 page) i 0
      ∙ get_or-take 4096 page i 0 h

  -- and every other byte is as it was
  pub put_elsewhere : (i : ℕ) → (i < gpa - r.gpa) ⊎ (gpa - r.gpa + 4096 ≤ i) → get_or after i 0 ≡ get_or image i 0
  put_elsewhere i h = ⊎_elim before past h
    where
      before : i < at → get_or after i 0 ≡ get_or image i 0
      before lo =
          in_front i (omega arith)
          ∙ get_or-append (take at image) (take 4096 page) 0 i (omega (arith, first_length))
          ∙ get_or-take at image i 0 lo

      past : at + 4096 ≤ i → get_or after i 0 ≡ get_or image i 0
      past hi =
          let k : length front + (i - (at + 4096)) ≡ i = omega (arith, front_length) in
          let k' : at + 4096 + (i - (at + 4096)) ≡ i = omega arith in
          ap (λ (xs : List ℕ). get_or xs i 0) p.pasted
          ∙ ap (λ (x : ℕ). get_or (front ++ drop (at + 4096) image) x 0) (sym k)
          ∙ get_or-append-add front (drop (at + 4096) image) (i - (at + 4096)) 0
          ∙ get_or-drop (at + 4096) image (i - (at + 4096)) 0
          ∙ ap (λ (x : ℕ). get_or image x 0) k'
