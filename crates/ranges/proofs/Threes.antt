-- The lent words in threes, and what the rules say of each range.
-- Assumes nothing.
use mathlib.Core.Path.{◌≡◌, refl, sym, ap, ◌∙◌}
use mathlib.Core.Bool.{true, not, ◌&&◌}
use mathlib.Core.List.{List, [], ◌∷◌, map}
use Prim.Native.Nat.{ℕ, zero, suc, ◌+◌, ◌/◌, ◌≤◌, ◌<◌}
use native.Mathlib.Numerals.{add-one}
use native.Mathlib.Omega.{arith}
use lib.Dec.{ltb, leb}
use lib.ListN.{length, get_or, drop, drop_of_length-le}
use Rattle.std.specs.Simd.{first_chunks}
use lib.Seq.{drop-cons}
use borrow.Author.Tests.{leb-true, ltb-true}
use Rattle.definitions.specs.Inputs.{Range}
use Rattle.definitions.specs.Ranges.{ranges_of, range_ok, ranges_ok, touches}
use Rattle.definitions.proofs.Answers.{and_l, and_r}
use Rattle.definitions.specs.declared.Region.{Region}
use Rattle.ranges.specs.Lists.{range}

-- ---- the ranges

-- the range that three words are
abbrev pub range_in : List ℕ → Range
range_in c = range (get_or c 0 0) (get_or c 1 0) (get_or c 2 0)

-- the ranges from the i-th three words on
abbrev pub from : List (List ℕ) → ℕ → List Range
from cs i = map range_in (drop i cs)

-- the words in threes are the ranges, whatever is left over
pub in_threes : (ws : List ℕ) (k : ℕ) → length ws / 3 ≡ k → ranges_of ws ≡ map range_in (first_chunks 3 k ws)
unfolding ranges_of
in_threes [] zero e = refl
in_threes [] (suc k) e = absurd (omega (arith, e))
in_threes (a ∷ []) zero e = refl
in_threes (a ∷ []) (suc k) e = absurd (omega (arith, e))
in_threes (a ∷ b ∷ []) zero e = refl
in_threes (a ∷ b ∷ []) (suc k) e = absurd (omega (arith, e))
in_threes (a ∷ b ∷ c ∷ ws) zero e = absurd (omega (arith, e))
in_threes (a ∷ b ∷ c ∷ ws) (suc k) e = ap (λ (rs : List Range). range a b c ∷ rs) (in_threes ws k (omega (arith, e)))

pub from_cons : (cs : List (List ℕ)) (i : ℕ) → i < length cs → from cs i ≡ range_in (get_or cs i []) ∷ from cs (i + 1)
from_cons cs i h =
    ap (map range_in) (drop-cons cs i [] h)
    ∙ ap (λ (k : ℕ). range_in (get_or cs i []) ∷ from cs k) (sym (add-one i))

pub from_none : (cs : List (List ℕ)) (i : ℕ) → length cs ≤ i → from cs i ≡ []
from_none cs i h = ap (map range_in) (drop_of_length-le cs h)

-- ---- the rules

-- the bounds that a range keeps, the one before it ending below lo
pub record Bounded (limit lo : ℕ) (r : Range) : Type 0 where
  pub low : lo ≤ r.first
  pub order : r.first ≤ r.last
  pub high : r.last < limit

pub bounded : (limit : ℕ) (g : Region) (lo : ℕ) (r : Range) → range_ok limit g lo r ≡ true → Bounded limit lo r
unfolding range_ok
bounded limit g lo r ok =
    let three = and_l _ (not (touches g.gpa g.size r)) ok in
    let two = and_l _ (ltb r.last limit) three in
    record {
      low = leb-true lo r.first (and_l _ (leb r.first r.last) two);
      order = leb-true r.first r.last (and_r (leb lo r.first) _ two);
      high = ltb-true r.last limit (and_r (leb lo r.first && leb r.first r.last) _ three);
    }

module _ (limit : ℕ) (g : Region) (lo : ℕ) where
  pub ok_none : ranges_ok limit g lo [] ≡ true
  unfolding ranges_ok
  ok_none = refl

  module _ (r : Range) (rs : List Range) (ok : ranges_ok limit g lo (r ∷ rs) ≡ true) where
    pub ok_first : Bounded limit lo r
    unfolding ranges_ok
    ok_first = bounded limit g lo r (and_l _ (ranges_ok limit g (suc r.last) rs) ok)

    pub ok_rest : ranges_ok limit g (suc r.last) rs ≡ true
    unfolding ranges_ok
    ok_rest = and_r (range_ok limit g lo r) _ ok
