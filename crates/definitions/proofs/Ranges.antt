-- What the rules of a region and of its offset give, in numbers.
-- Assumes nothing.
use mathlib.Core.Path.{◌≡◌}
use mathlib.Core.Bool.{true}
use Prim.Native.Nat.{ℕ, ◌+◌, ◌*◌, ◌%◌, ◌≤◌}
use lib.Dec.{eqb, leb}
use borrow.Author.Tests.{eqb-true, leb-true}
use Rattle.definitions.specs.Inputs.{Region}
use Rattle.definitions.specs.Ranges.{region_ok, shifted, offset_ok}
use Rattle.definitions.proofs.Answers.{and_both}

-- a region that keeps the rules: both passes ask it of their regions
pub record SoundRegion (limit : ℕ) (r : Region) : Type 0 where
  pub gpa : r.gpa % 4096 ≡ 0
  pub size : r.size % 4096 ≡ 0
  pub used : r.used % 4096 ≡ 0
  pub some : 4096 ≤ r.size
  pub most : r.size ≤ 512 * 4096
  pub fits : r.used ≤ r.size
  pub end : r.gpa + r.size ≤ limit

pub region_sound : (limit : ℕ) (r : Region) → region_ok limit r ≡ true → SoundRegion limit r
unfolding region_ok
region_sound limit r e =
    let s₁ = and_both _ (leb (r.gpa + r.size) limit) e in
    let s₂ = and_both _ (leb r.used r.size) s₁.0 in
    let s₃ = and_both _ (leb r.size (512 * 4096)) s₂.0 in
    let s₄ = and_both _ (leb 4096 r.size) s₃.0 in
    let s₅ = and_both _ (eqb (r.used % 4096) 0) s₄.0 in
    let s₆ = and_both (eqb (r.gpa % 4096) 0) (eqb (r.size % 4096) 0) s₅.0 in
    record {
      gpa = eqb-true _ _ s₆.0;
      size = eqb-true _ _ s₆.1;
      used = eqb-true _ _ s₅.1;
      some = leb-true _ _ s₄.1;
      most = leb-true _ _ s₃.1;
      fits = leb-true _ _ s₂.1;
      end = leb-true _ _ s₁.1;
    }

pub offset_sound : (limit : ℕ) (r : Region) (o : ℕ) → offset_ok limit r o ≡ true → (o % 4096 ≡ 0) × (shifted r.gpa o + r.size ≤ limit)
unfolding offset_ok
offset_sound limit r o e = let s = and_both (eqb (o % 4096) 0) _ e in (eqb-true _ _ s.0, leb-true _ _ s.1)
