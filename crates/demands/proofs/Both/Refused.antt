-- Both passes of a job: where pass 2 refuses a leaf, a condition of refusal holds, with the number and the place (refused_for).
-- Builds on Stop. Assumes nothing.
use Prim.Native.Nat.{ℕ, ◌+◌, ◌<◌, ◌≤◌}
use mathlib.Core.Path.{◌≡◌, refl, sym, ◌∙◌}
use mathlib.Core.List.Memᴰ
use mathlib.Core.List.{List, [], ◌∷◌, Memᴰ}
use mathlib.Core.Logic.{◌⊎◌, inl, inr, ⊎_elim}
use native.Mathlib.Decide.{dec_le}
use native.Mathlib.Omega.{arith}
use Rattle.definitions.specs.Geometry.{part}
use Rattle.definitions.specs.Inputs.{Job, place_at}
use Rattle.definitions.specs.Ranges.{Kind, kind, used_tables, all_tables}
use Rattle.definitions.specs.Pass1.{State}
use Rattle.definitions.specs.Build.{plan_of}
use Rattle.definitions.specs.Walk.{Spot, End, nothing, wild, in_leaf, past}
use Rattle.definitions.specs.Demand.{Proper, Moves}
use Rattle.definitions.specs.Conditions.{BadPlaces, on_leaf, in_span, on_past, on_table, on_other, no_room}
use Rattle.definitions.specs.declared.Moved.{Moved}
use Rattle.definitions.specs.declared.Place.{Place}
use Rattle.definitions.proofs.Splits.{on_eq, impossible}
use Rattle.definitions.proofs.Geometry.{of_part}
use Rattle.definitions.proofs.Checks.{Good}
use Rattle.demands.proofs.Shared.Walks.{not_wild, same_level}
use Rattle.demands.proofs.Shared.Paging.{Paging, In, Addr, at, walk, ended}
use Rattle.demands.proofs.Pass1.Passing.{Sound, Fixed}
use Rattle.demands.proofs.Pass2.Leaf.{Other, Blocked, leaf_way, past_way, differs, full}
use Rattle.demands.proofs.Pass2.Leaves.{Stuck}
use Rattle.demands.proofs.Both.Sound.{paging, passing, sound}
use Rattle.demands.proofs.Both.Bridge.{old, in_lands}
use Rattle.demands.proofs.Both.Left.{stays, as_before, stop_same, tables_same}
use Rattle.demands.proofs.Both.Stop.{AtStop, at_stop, needs_before}

-- a leaf of the list whose new span holds a, if there is one
any : (xs : List Moved) (a : ℕ) → ((y : Moved) × Memᴰ y xs × In y a) ⊎ ((y : Moved) → Memᴰ y xs → ¬ In y a)
any [] a = inr (λ y e. absurd (Memᴰ.not-nil e))
any (x ∷ xs) a =
    on_eq (part x.level a) (part x.level x.address)
    (λ e. inl (x, Memᴰ.head refl, e))
    (λ n. ⊎_elim
    (λ w. inl (w.0, Memᴰ.tail w.1, w.2))
    (λ w. inr (λ y e. ⊎_elim (λ d. rw d n) (w y) (Memᴰ.cases_cons e)))
    (any xs a))

module _ (j : Job) (proper : Proper j) (good : Good j) {s : State} (X : Fixed (passing j) s)
    {n : ℕ} {q : Place} (T : Stuck (paging j) s.moved s.mem (used_tables j.region) n q) where
  open T use {x, m₁, u₁, in_before as B}

  abbrev W : Paging
  W = paging j

  abbrev read : ℕ → ℕ → Kind
  read = kind (plan_of j).new

  abbrev a : ℕ
  a = T.x.address

  -- where the walk of the new address ends, with the leaves before in
  abbrev here : Spot
  here = at (paging j) T.m₁ T.x.address

  abbrev found : End
  found = walk (paging j) T.m₁ T.x.address

  S : Sound (passing j)
  S = sound j proper good

  Z : AtStop j T
  Z = at_stop j proper good X T

  abbrev mo : Moves j Z.from x
  mo = Z.moves

  r : Addr W a
  r = Z.reach x (Memᴰ.head refl)

  -- no earlier leaf lies in the part that x is to map
  not_earlier : (y : Moved) → Memᴰ y T.before → ¬ (part x.level a ≡ part x.level y.address)
  not_earlier y e w = let h = of_part x.level y.address a (old j Z.from x mo).whole (sym w) in omega (arith, h.0, Z.earlier y e)

  apart : ((y : Moved) → Memᴰ y T.before → ¬ In y a) → found ≡ walk W s.mem a
  apart out = B.apart a r out

  no_room_lem : (l : ℕ) → x.level < l → l ≤ here.level → all_tables (plan_of j).new + l ≤ u₁ + here.level → BadPlaces j 19 (place_at a l)
  no_room_lem l lo le h =
      let g = needs_before j proper good X T x.level (omega arith) in
      no_room mo lo (omega (arith, B.lower a r, stop_same j proper good X a r)) g.list g.distinct (λ p e. (g.only p e).need)
      (omega (arith, g.count, tables_same j))

  -- what stands at the new place of x is not x
  other : Other W x m₁ → BadPlaces j 18 (place_at a x.level)
  other =
      ⊎_elim
      (λ lt. elim (dec_le x.level (at W s.mem a).level) [
        | yes h ↦ let w = B.only a x.level r lt h in absurd (not_earlier w.0 w.1 w.2)
        | no h ↦ on_table mo (omega (arith, stop_same j proper good X a r))
      ])
      (λ c. ⊎_elim
      (λ y.
      let v : found ≡ in_leaf y.0.level y.0.entry = B.inside y.0 y.1 a r y.2 in
      let e : y.0.level ≡ x.level = sym (Z.at_leaf y.0.level y.0.entry v) ∙ c.0 in
      absurd (not_earlier y.0 y.1 (rw e at y.2)))
      (λ out.
      let v = apart out in
      let some : ¬ (walk W s.mem a ≡ nothing) = λ z. c.1 (v ∙ z) in
      let st = stays j proper good X a r some in
      let b = as_before j proper good X a r st in
      let tame : ¬ (found ≡ wild) = not_wild read m₁ here (ended W S.lawful m₁ u₁ B.good a r).stop in
      let lv = same_level read m₁ here s.mem (at W s.mem a) found refl (sym v) c.1 tame in
      on_other mo (sym (stop_same j proper good X a r) ∙ sym lv ∙ c.0) st (λ z. some (b ∙ z)) (λ z. c.2 (v ∙ b ∙ z)))
      (any T.before a))

  -- x lies in the new span of an earlier leaf
  in_span_lem : (l e : ℕ) (y : Moved) → Memᴰ y T.before → In y a → x.level < l → found ≡ in_leaf l e → BadPlaces j 16 (place_at a l)
  in_span_lem l e y my i lo w =
      let v : found ≡ in_leaf y.level y.entry = B.inside y my a r i in
      let el : l ≡ y.level = cc in
      rw el (in_span mo (in_lands j a y (Z.going y (Memᴰ.tail my)) i) (omega arith))

  reason : {n : ℕ} {q : Place} → Blocked W x m₁ u₁ n q → BadPlaces j n q
  reason (leaf_way {l} {e} lo w) =
      ⊎_elim
      (λ y. in_span_lem l e y.0 y.1 y.2 lo w)
      (λ out.
      let v : walk W s.mem a ≡ in_leaf l e = sym (apart out) ∙ w in
      let st = stays j proper good X a r (λ z. impossible (cc)) in
      on_leaf mo lo (sym (as_before j proper good X a r st) ∙ v) st)
      (any T.before a)
  reason (past_way {l} {e} lo w) =
      ⊎_elim
      (λ y.
      let v : found ≡ in_leaf y.0.level y.0.entry = B.inside y.0 y.1 a r y.2 in
      impossible (cc))
      (λ out.
      let v : walk W s.mem a ≡ past l e = sym (apart out) ∙ w in
      let st = stays j proper good X a r (λ z. impossible (cc)) in
      on_past mo lo (sym (as_before j proper good X a r st) ∙ v))
      (any T.before a)
  reason (differs el d) = rw el (other d)
  reason (full {l} lo le w h some) = no_room_lem l lo le h

  pub refused_for : BadPlaces j n q
  refused_for = reason T.blocked
