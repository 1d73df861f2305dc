-- The loop of `list_valid`: the ranges from the i-th on decide whether the whole list keeps the rules.
-- Assumes nothing.
use mathlib.Core.Path.{◌≡◌, sym, ap, ◌∙◌}
use mathlib.Core.Bool.{Bool, true, false, not, ◌&&◌}
use mathlib.Core.List.{List, []}
use Prim.Native.Nat.{ℕ, suc, ◌+◌, ◌/◌, ◌%◌, ◌≤◌, ◌<◌}
use native.Mathlib.Numerals.{add-one}
use native.Mathlib.Omega.{arith}
use lib.Dec.{eqb}
use lib.ListN.{length, get_or}
use borrow.Author.Tests.{le-leb, lt-leb, not-true, not-false}
use Rattle.definitions.specs.Ranges.{list_ok, range_ok, ranges_ok, ranges_of, touches}
use Rattle.definitions.specs.declared.Region.{Region}
use Rattle.ranges.specs.Lists.{range, valid_for}
use Rattle.ranges.proofs.Threes.{from, from_cons, from_none, Bounded, bounded, ok_none}

-- the ranges before the i-th end below lo; what is left says what the whole does
pub record Checking (limit : ℕ) (g : Region) (ws : List ℕ) (cs : List (List ℕ)) (i lo : ℕ) : Type 0 where
  pub rest : ranges_ok limit g lo (from cs i) ≡ valid_for limit g ws

-- ws: the words, of which cs are the threes and `left` are left over
module _ (limit : ℕ) (g : Region) (ws : List ℕ) {left : ℕ} (over : left ≡ length ws % 3) where
  pub bad_thirds : eqb left 0 ≡ false → false ≡ valid_for limit g ws
  unfolding list_ok
  bad_thirds h = rw (ap (λ (k : ℕ). eqb k 0) (sym over) ∙ h)

  module _ (cs : List (List ℕ)) (whole : eqb left 0 ≡ true) (threes : length cs ≡ length ws / 3) where
    pub bad_many : 1024 < length cs → false ≡ valid_for limit g ws
    unfolding list_ok
    bad_many h =
        let many : 1024 < length ws / 3 = omega (arith, h, threes) in
        rw (ap (λ (k : ℕ). eqb k 0) (sym over) ∙ whole, lt-leb (length ws / 3) 1024 many)

    pub begin : ranges_of ws ≡ from cs 0 → length cs ≤ 1024 → Checking limit g ws cs 0 0
    unfolding list_ok
    begin e h =
        let few : length ws / 3 ≤ 1024 = omega (arith, h, threes) in
        record {
          rest =
              rw (ap (λ (k : ℕ). eqb k 0) (sym over) ∙ whole, le-leb (length ws / 3) 1024 few) (ap (ranges_ok limit g 0) (sym e));
        }

module _ {limit : ℕ} {g : Region} {ws : List ℕ} {cs : List (List ℕ)} {i lo : ℕ} (k : Checking limit g ws cs i lo) where
  pub over : length cs ≤ i → true ≡ valid_for limit g ws
  over h = sym (ap (ranges_ok limit g lo) (from_none cs i h) ∙ ok_none limit g lo) ∙ k.rest

  -- b: whether the i-th range keeps the rules
  module _ {b : Bool} (more : i < length cs)
      (one : b ≡ range_ok limit g lo (range (get_or (get_or cs i []) 0 0) (get_or (get_or cs i []) 1 0) 0)) where
    both : (c : Bool) → b ≡ c → (c && ranges_ok limit g (suc (get_or (get_or cs i []) 1 0)) (from cs (i + 1))) ≡ valid_for limit g ws
    unfolding ranges_ok range_ok touches
    both c e =
        ap (λ (d : Bool). d && ranges_ok limit g (suc (get_or (get_or cs i []) 1 0)) (from cs (i + 1))) (sym e ∙ one)
        ∙ ap (ranges_ok limit g lo) (sym (from_cons cs i more)) ∙ k.rest

    pub stop : not b ≡ true → false ≡ valid_for limit g ws
    stop h = both false (not-true b h)

    pub bound : not b ≡ false → Bounded limit lo (range (get_or (get_or cs i []) 0 0) (get_or (get_or cs i []) 1 0) 0)
    bound h = bounded limit g lo _ (sym one ∙ not-false b h)

    pub again : not b ≡ false → Checking limit g ws cs (i + 1) (get_or (get_or cs i []) 1 0 + 1)
    again h =
        record {
          rest = ap (λ (x : ℕ). ranges_ok limit g x (from cs (i + 1))) (add-one (get_or (get_or cs i []) 1 0)) ∙ both true (not-false b h);
        }
