-- What a build and a load take from cr4: the geometry (by_geometry), which bit 0x1000 chooses. With the bit clear it is that of
-- four levels (four_levels), and so are the build and the load (four_build, four_load). What is walked, in numbers.
-- Assumes nothing.
use mathlib.Core.Path.{◌≡◌, refl, sym, ap, ◌∙◌}
use mathlib.Core.Bool.{Bool, true, false, cond}
use mathlib.Core.List.{List}
use mathlib.Core.Logic.{◌↔◌}
use Prim.Native.Nat.{ℕ, ◌^◌, ◌<◌}
use native.Mathlib.Omega.{arith}
use lib.Dec.{eqb}
use borrow.Author.Tests.{eq-eqb, ne_eqb}
use Rattle.definitions.specs.Geometry.{Geometry, four, five, span}
use Rattle.definitions.specs.Inputs.{Region, Job}
use Rattle.definitions.specs.Load.{load}
use Rattle.definitions.specs.Build.{five_bit, geometry_of, geometry, height, plan_of, start, first_pass, second_pass, root, passes, build}
use Rattle.definitions.specs.Demand.{Walked}
use Rattle.definitions.proofs.Geometry.{SoundGeometry, four_sound, five_sound}

-- the passes can go by the geometry of every cr4
pub geometry_sound : (cr4 : ℕ) → SoundGeometry (geometry_of cr4)
unfolding geometry_of
geometry_sound cr4 = chosen (eqb (five_bit cr4) 1)
  where
    chosen : (b : Bool) → SoundGeometry (cond b five four)
    chosen true = five_sound
    chosen false = four_sound

pub five_levels : (cr4 : ℕ) → five_bit cr4 ≡ 1 → geometry_of cr4 ≡ five
unfolding geometry_of
five_levels cr4 h = rw (eq-eqb _ _ h)

pub four_levels : (cr4 : ℕ) → ¬ (five_bit cr4 ≡ 1) → geometry_of cr4 ≡ four
unfolding geometry_of
four_levels cr4 h = rw (ne_eqb _ _ h)

-- §7.2: "No other bit of cr4 counts"
pub one_bit : (c c' : ℕ) → five_bit c ≡ five_bit c' → geometry_of c ≡ geometry_of c'
unfolding geometry_of
one_bit c c' e = ap (λ (b : ℕ). cond (eqb b 1) five four) e

-- how many levels there are, and which addresses are walked
pub five_walked : (j : Job) → five_bit j.cr4 ≡ 1 → (height j ≡ 5) × ((a : ℕ) → Walked j a ↔ (a < 2 ^ 57))
unfolding span
five_walked j h = rw (five_levels j.cr4 h) (refl, λ a. (λ w. w, λ w. w))

pub four_walked : (j : Job) → ¬ (five_bit j.cr4 ≡ 1) → (height j ≡ 4) × ((a : ℕ) → Walked j a ↔ (a < 2 ^ 48))
unfolding span
four_walked j h = rw (four_levels j.cr4 h) (refl, λ a. (λ w. w, λ w. w))

-- the same job with another cr4
abbrev pub with_cr4 : Job → ℕ → Job
with_cr4 j c = record {
  region = j.region;
  cr3 = j.cr3;
  cr4 = c;
  table_offset = j.table_offset;
  words = j.words;
  image_length = j.image_length;
  image = j.image;
  output_length = j.output_length;
  scratch_length = j.scratch_length;
}

-- a build takes nothing from cr4 but the geometry
pub by_geometry : (j : Job) (c : ℕ) → geometry j ≡ geometry_of c → build j ≡ build (with_cr4 j c)
unfolding build passes start first_pass second_pass plan_of root
by_geometry j c e = rw e

-- so with the bit clear it is the build of cr4 0, and a load is the one of four levels
pub four_build : (j : Job) → ¬ (five_bit j.cr4 ≡ 1) → build j ≡ build (with_cr4 j 0)
four_build j h = by_geometry j 0 (four_levels j.cr4 h ∙ sym (four_levels 0 (omega arith)))

module _ (r : Region) (image : List ℕ) (gpa : ℕ) (page : List ℕ) where
  pub four_load : (cr4 : ℕ) → ¬ (five_bit cr4 ≡ 1) → load (geometry_of cr4) r image gpa page ≡ load four r image gpa page
  four_load cr4 h = ap (λ (g : Geometry). load g r image gpa page) (four_levels cr4 h)
