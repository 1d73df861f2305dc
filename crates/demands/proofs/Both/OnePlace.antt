-- Both passes of a job: there is one first place at which something is in the way of pass 2, and one number for it (first_place_one).
-- Builds on Left and RoomOnly. Assumes nothing.
use Prim.Native.Nat.{ℕ, ◌<◌}
use mathlib.Core.Path.{◌≡◌, refl, sym, ◌∙◌, ap, ap₂}
use mathlib.Core.Logic.{◌⊎◌, inl, inr, ⊎_elim}
use native.Mathlib.Omega.{arith}
use Rattle.definitions.specs.Geometry.{part}
use Rattle.definitions.specs.Inputs.{Job, place_at}
use Rattle.definitions.specs.Ranges.{kind}
use Rattle.definitions.specs.Pass1.{State}
use Rattle.definitions.specs.Build.{height, root}
use Rattle.definitions.specs.Walk.{in_leaf, past, walk}
use Rattle.definitions.specs.Demand.{Proper, before, stop_before, Moves, Lands}
use Rattle.definitions.specs.Conditions.{BadPlaces, on_leaf, in_span, on_past, on_table, on_other, no_room}
use Rattle.definitions.specs.Order.{Earlier, InWay, stands, no_table, FirstInWay}
use Rattle.definitions.specs.declared.Moved.{Moved}
use Rattle.definitions.specs.declared.Place.{Place}
use Rattle.definitions.proofs.Splits.{on_eq, impossible}
use Rattle.definitions.proofs.Checks.{Good}
use Rattle.definitions.proofs.Order.{in_way_bad, in_way_lowest, not_after_one}
use Rattle.demands.proofs.Shared.Walks.{same_stop, past_level}
use Rattle.demands.proofs.Pass1.Passing.{Fixed}
use Rattle.demands.proofs.Both.Sound.{passing}
use Rattle.demands.proofs.Both.Bridge.{lands_in}
use Rattle.demands.proofs.Both.Left.{one_leaf}
use Rattle.demands.proofs.Both.RoomOnly.{past_stays}

module _ (j : Job) where
  -- two addresses of one part of level l, where the walk of one ends at that level: so does that of the other, and alike
  same_past : (l e a b : ℕ) → part l b ≡ part l a → before j b ≡ past l e → (before j a ≡ past l e) × ((stop_before j a).level ≡ l)
  unfolding before stop_before walk
  same_past l e a b w v =
      let d = past_level (kind j.region) j.image (stop_before j b) l e v in
      let z = same_stop (kind j.region) (height j) l j.image (root j) a b w (omega (arith, d)) in
      rw z (v, d)

  place_of : {n : ℕ} {q : Place} → BadPlaces j n q → q ≡ place_at q.address q.level
  place_of (on_leaf m lo w st) = refl
  place_of (in_span m land lo) = refl
  place_of (on_past m lo w) = refl
  place_of (on_table m lo) = refl
  place_of (on_other m el st some other) = refl
  place_of (no_room m lo le ps d need h) = refl

  -- a leaf moves to the address of q, and its level is that of q, or lower
  abbrev AtLevel : Place → Type 0
  AtLevel q = (c : ℕ) × (y : Moved) × Moves j c y × (y.address ≡ q.address) × (y.level ≡ q.level)

  abbrev UnderLevel : Place → Type 0
  UnderLevel q = (c : ℕ) × (y : Moved) × Moves j c y × (y.address ≡ q.address) × (y.level < q.level)

  -- at the level of q a leaf is in the way, old or moved; or a pointer outside the region is
  abbrev ByLeaf : Place → Type 0
  ByLeaf q =
      ((e : ℕ) × (before j q.address ≡ in_leaf q.level e)) ⊎ ((c : ℕ) × (z : Moved) × Lands j q.address c z × (z.level ≡ q.level))

  abbrev ByPast : Place → Type 0
  ByPast q = (e : ℕ) × (before j q.address ≡ past q.level e)

  -- what stands in the way, by its number
  abbrev Standing : ℕ → Place → Type 0
  Standing n q = ((n ≡ 18) × AtLevel q) ⊎ (UnderLevel q × (((n ≡ 16) × ByLeaf q) ⊎ ((n ≡ 17) × ByPast q)))

  standing : {n : ℕ} {q : Place} → BadPlaces j n q → ¬ (n ≡ 19) → Standing n q
  standing (on_leaf {b} {e = e} {x} m lo w st) n = inr ((b, x, m, refl, lo), inl (refl, inl (e, w)))
  standing (in_span {b} {c} {x} {y} m land lo) n = inr ((b, x, m, refl, lo), inl (refl, inr (c, y, land, refl)))
  standing (on_past {b} {e = e} {x} m lo w) n = inr ((b, x, m, refl, lo), inr (refl, (e, w)))
  standing (on_table {b} {x} m lo) n = inl (refl, (b, x, m, refl, refl))
  standing (on_other {b} {x} m el st some other) n = inl (refl, (b, x, m, refl, refl))
  standing (no_room m lo le ps d need h) n = absurd (n refl)

  module _ (proper : Proper j) (good : Good j) {s : State} (X : Fixed (passing j) s) where
    not_both : (q : Place) → AtLevel q → ¬ UnderLevel q
    not_both q a u =
        let e = one_leaf j proper good X a.0 u.0 a.1 u.1 a.2 u.2 (a.3 ∙ sym u.3) in
        omega (arith, a.4, u.4, ap (λ (w : Moved). w.level) e)

    module _ (q : Place) (none : (n' : ℕ) (q' : Place) → Earlier q' q → ¬ InWay j n' q') where
      -- a leaf whose new span has such a pointer at its place is refused itself
      leaf_or_past : UnderLevel q → ByLeaf q → ¬ ByPast q
      leaf_or_past u k p =
          ⊎_elim
          (λ d. let v = d.1 in let w = p.1 in impossible (cc))
          (λ d.
          let z = d.1 in
          let land = d.2 in
          on_eq z.address q.address
          (λ e.
          let o = one_leaf j proper good X d.0 u.0 z u.1 land.leaf u.2 (e ∙ sym u.3) in
          omega (arith, d.3, u.4, ap (λ (w : Moved). w.level) o))
          (λ n.
          let v : before j q.address ≡ past z.level p.0 = rw d.3 p.1 in
          let w = same_past z.level p.0 z.address q.address (lands_in j q.address d.0 z land) v in
          let f = w.0 in
          let b = on_other land.leaf w.1 (past_stays j z.address z.level p.0 f) (λ t. impossible (cc)) (λ t. impossible (cc)) in
          none 18 (place_at z.address z.level) (inl (omega (arith, land.low))) (stands b (omega arith))))
          k

      same_standing : (n n₁ : ℕ) → Standing n q → Standing n₁ q → n ≡ n₁
      same_standing n n₁ =
          ⊎_elim
          (λ a. ⊎_elim (λ b. a.0 ∙ sym b.0) (λ b. absurd (not_both q a.1 b.0)))
          (λ a. ⊎_elim
          (λ b. absurd (not_both q b.1 a.0))
          (λ b. ⊎_elim
          (λ c. ⊎_elim (λ d. c.0 ∙ sym d.0) (λ d. absurd (leaf_or_past a.0 c.1 d.1)) b.1)
          (λ c. ⊎_elim (λ d. absurd (leaf_or_past a.0 d.1 c.1)) (λ d. c.0 ∙ sym d.0) b.1)
          a.1))

      one_number : (n n₁ : ℕ) → InWay j n q → InWay j n₁ q → n ≡ n₁
      one_number n n₁ (no_table m lo le eq other new ps d need h) w = sym (other n₁ (in_way_bad w))
      one_number n n₁ (stands b nb) (no_table m lo le eq other new ps d need h) = other n b
      one_number n n₁ (stands b nb) (stands c nc) = same_standing n n₁ (standing b nb) (standing c nc)

    pub first_place_one : (n n₁ : ℕ) (q q₁ : Place) → FirstInWay j n q → FirstInWay j n₁ q₁ → (n ≡ n₁) × (q ≡ q₁)
    first_place_one n n₁ q q₁ F G =
        let w = not_after_one q q₁ (in_way_lowest F G.in_way) (in_way_lowest G F.in_way) in
        let e : q ≡ q₁ = place_of (in_way_bad F.in_way) ∙ ap₂ place_at w.1 w.0 ∙ sym (place_of (in_way_bad G.in_way)) in
        (one_number q F.none n n₁ F.in_way (rw e G.in_way), e)
