-- What ranges that keep the rules say of a leaf that maps the n addresses from a.
-- Assumes nothing.
use mathlib.Core.Path.{◌≡◌, refl, sym, ap, ◌∙◌}
use mathlib.Core.Bool.{Bool, true, false, not, cond, ◌&&◌, and-false}
use mathlib.Core.List.{List, [], ◌∷◌}
use Prim.Native.Nat.{ℕ, suc, ◌+◌, ◌≤◌, ◌<◌}
use native.Mathlib.Omega.{arith}
use native.Mathlib.Decide.{dec_lt}
use lib.Dec.{eqb, ltb}
use borrow.Author.Tests.{lt-ltb, le-ltb}
use Rattle.definitions.specs.Inputs.{Range}
use Rattle.definitions.specs.Ranges.{ranges_ok, touches, joined, range_of, deciding, touching, by_offset, verdict, Verdict, stay}
use Rattle.definitions.specs.declared.Region.{Region}
use Rattle.ranges.specs.Lists.{joins, says}
use Rattle.ranges.proofs.Threes.{ok_first, ok_rest}

-- ---- without the region

far : (a n : ℕ) (r : Range) → a + n ≤ r.first → touches a n r ≡ false
unfolding touches
far a n r h = rw (le-ltb r.first (a + n) h)

touching_skip : (a n : ℕ) (r : Range) (rs : List Range) → touches a n r ≡ false → touching a n (r ∷ rs) ≡ touching a n rs
unfolding touching
touching_skip a n r rs off = rw off

verdict_here : (a n : ℕ) (r : Range) (rs : List Range) → touches a n r ≡ true → verdict n (touching a n (r ∷ rs)) ≡ by_offset n r.offset
unfolding touching verdict by_offset
verdict_here a n r rs on = rw on

verdict_one : (n : ℕ) (x : Range) (b : Bool) → verdict n (cond b (x ∷ []) []) ≡ cond b (by_offset n x.offset) stay
unfolding verdict by_offset
verdict_one n x true = refl
verdict_one n x false = refl

verdict_none : (n : ℕ) → verdict n [] ≡ stay
unfolding verdict
verdict_none n = refl

-- ---- with a range x joined

-- the first range touches: it decides, or x where that comes before
joined_hit : (a n : ℕ) (x r : Range) (rs : List Range) → touches a n r ≡ true
    → verdict n (touching a n (joined x (r ∷ rs)))
    ≡ cond (touches a n x && ltb x.first r.first) (by_offset n x.offset) (by_offset n r.offset)
unfolding touching joined verdict by_offset
joined_hit a n x r rs on = pick (ltb x.first r.first)
  where
    both : Bool → Verdict
    both b = cond b (by_offset n x.offset) (by_offset n r.offset)

    inner : (b : Bool) → verdict n (cond b (x ∷ touching a n (r ∷ rs)) (touching a n (r ∷ rs))) ≡ both (b && true)
    inner true = refl
    inner false = rw on

    pick : (c : Bool) → verdict n (touching a n (cond c (x ∷ r ∷ rs) (r ∷ joined x rs))) ≡ both (touches a n x && c)
    pick true = inner (touches a n x)
    pick false = rw (on, and-false (touches a n x))

module _ (limit : ℕ) (g : Region) (a n : ℕ) where
  -- the ranges lie past the leaf: none touches
  none_past : (lo : ℕ) (rs : List Range) → ranges_ok limit g lo rs ≡ true → a + n ≤ lo → touching a n rs ≡ []
  unfolding touching
  none_past lo [] ok h = refl
  none_past lo (r ∷ rs) ok h =
      let k = ok_first limit g lo r rs ok in
      rw (far a n r (omega arith)) (none_past (suc r.last) rs (ok_rest limit g lo r rs ok) (omega arith))

  -- with x joined, x alone may touch
  joined_past : (x : Range) (lo : ℕ) (rs : List Range) → ranges_ok limit g lo rs ≡ true → a + n ≤ lo
      → touching a n (joined x rs) ≡ cond (touches a n x) (x ∷ []) []
  unfolding touching joined
  joined_past x lo [] ok h = refl
  joined_past x lo (r ∷ rs) ok h =
      let k = ok_first limit g lo r rs ok in
      let rest = ok_rest limit g lo r rs ok in
      let off = far a n r (omega arith) in
      elim (dec_lt x.first r.first) [
        | yes l ↦ rw (lt-ltb x.first r.first l, off, none_past (suc r.last) rs rest (omega arith))
        | no l ↦ rw (le-ltb x.first r.first (omega arith), off) (joined_past x (suc r.last) rs rest (omega arith))
      ]

  -- the first range does not touch: the others decide, and x
  joined_next : (x : Range) (lo : ℕ) (r : Range) (rs : List Range) → ranges_ok limit g lo (r ∷ rs) ≡ true → touches a n r ≡ false
      → touching a n (joined x (r ∷ rs)) ≡ touching a n (joined x rs)
  unfolding touching joined
  joined_next x lo r rs ok off =
      elim (dec_lt x.first r.first) [
        | yes l ↦ rw (lt-ltb x.first r.first l, off) (sym (ap (touching a n) (front rs (ok_rest limit g lo r rs ok) l)))
        | no l ↦ rw (le-ltb x.first r.first (omega arith), off)
      ]
    where
      front : (qs : List Range) → ranges_ok limit g (suc r.last) qs ≡ true → x.first < r.first → joined x qs ≡ x ∷ qs
      front [] k l = refl
      front (q ∷ qs) k l =
          let here = ok_first limit g lo r rs ok in
          let after = ok_first limit g (suc r.last) q qs k in
          rw (lt-ltb x.first q.first (omega arith))

-- ---- the ranges that decide: with the region joined where its offset is not 0

-- where no range touches, the region decides alone
abbrev pub alone : ℕ → ℕ → Bool → Verdict
alone o n b = cond b (by_offset n o) stay

-- a range touches: the region decides where it joins and comes before
abbrev pub either : Region → ℕ → ℕ → Range → Bool → Verdict
either g o n r b = cond (b && ltb g.gpa r.first) (by_offset n o) (by_offset n r.offset)

pub says_hit : (g : Region) (o a n : ℕ) (r : Range) (rs : List Range) → touches a n r ≡ true
    → says g o a n (r ∷ rs) ≡ either g o n r (joins g o a n)
unfolding deciding joins
says_hit g o a n r rs on = pick (eqb o 0)
  where
    x : Range
    x = range_of g o

    pick : (b : Bool) → verdict n (touching a n (cond b (r ∷ rs) (joined x (r ∷ rs)))) ≡ either g o n r (not b && touches a n x)
    pick true = verdict_here a n r rs on
    pick false = joined_hit a n x r rs on

module _ (limit : ℕ) (g : Region) (o a n lo : ℕ) where
  pub says_past : (rs : List Range) → ranges_ok limit g lo rs ≡ true → a + n ≤ lo → says g o a n rs ≡ alone o n (joins g o a n)
  unfolding deciding joins
  says_past rs ok h = pick (eqb o 0)
    where
      x : Range
      x = range_of g o

      pick : (b : Bool) → verdict n (touching a n (cond b rs (joined x rs))) ≡ alone o n (not b && touches a n x)
      pick true = ap (verdict n) (none_past limit g a n lo rs ok h) ∙ verdict_none n
      pick false = ap (verdict n) (joined_past limit g a n x lo rs ok h) ∙ verdict_one n x (touches a n x)

  pub says_next : (r : Range) (rs : List Range) → ranges_ok limit g lo (r ∷ rs) ≡ true → touches a n r ≡ false
      → says g o a n (r ∷ rs) ≡ says g o a n rs
  unfolding deciding
  says_next r rs ok off = pick (eqb o 0)
    where
      x : Range
      x = range_of g o

      pick : (b : Bool) → verdict n (touching a n (cond b (r ∷ rs) (joined x (r ∷ rs)))) ≡ verdict n (touching a n (cond b rs (joined x rs)))
      pick true = ap (verdict n) (touching_skip a n r rs off)
      pick false = ap (verdict n) (joined_next limit g a n x lo r rs ok off)
