-- Pass 1, walk order: there is one first entry at which something is wrong, and one number and place for it (first_one). Builds on First.
-- Assumes nothing.
use Prim.Native.Nat.{ℕ, suc}
use mathlib.Core.Path.{◌≡◌, refl, sym, ◌∙◌, ap}
use mathlib.Core.Logic.{⊎_elim}
use native.Mathlib.Nat.{eq_of_mul-eq-mul_right}
use native.Mathlib.Omega.{arith}
use Rattle.definitions.specs.Geometry.{span}
use Rattle.definitions.specs.Demand.{part_of, place_of}
use Rattle.definitions.specs.Pass1.{Act, keep, move, follow, refuse}
use Rattle.definitions.specs.Order as O
use Rattle.definitions.specs.declared.Moved.{Moved}
use Rattle.definitions.specs.declared.Place.{Place}
use Rattle.definitions.proofs.Geometry.{span_pos}
use Rattle.definitions.proofs.Order as P
use Rattle.definitions.proofs.Order.{TakenBefore, shape, first_lowest, not_after_one}
use Rattle.demands.proofs.Pass1.Passing.{Passing}
use Rattle.demands.proofs.Pass1.Ways.{way_one}
use Rattle.demands.proofs.Pass1.First.{Met, does, First}

module _ (K : Passing) where
  open K use {paging as W, old, act, room, m₀}
  open W use {H, root}

  abbrev Taken : Met K → Moved → Type 0
  Taken = TakenBefore old m₀ H root act

  abbrev Free : Met K → Moved → Type 0
  Free e x = O.Free old m₀ H root act e x.address

  abbrev Shape : Met K → ℕ → Place → Act → Type 0
  Shape = P.Shape old m₀ H root act

  -- ---- of two entries that have one place
  module _ (e f : Met K) (el : e.l ≡ f.l) (ep : part_of e ≡ part_of f) where
    not_free : (x : Moved) → Taken e x → ¬ Free f x
    not_free x k free = free k.0 k.1 (rw (el, ep) at k.2) k.3 k.4

    not_taken : (x : Moved) → Free e x → ¬ Taken f x
    not_taken x free k = free k.0 k.1 (rw (el, ep) k.2) k.3 k.4

    same_shape : (a : Act) (n n₁ : ℕ) (q q₁ : Place) → Shape e n q a → Shape f n₁ q₁ a → (n ≡ n₁) × (q ≡ q₁)
    same_shape keep n n₁ q q₁ s s₁ = absurd s
    same_shape (refuse m r) n n₁ q q₁ s s₁ = (s.0 ∙ sym s₁.0, s.1 ∙ sym s₁.1)
    same_shape (follow t v) n n₁ q q₁ s s₁ = let z : place_of e ≡ place_of f = rw (el, ep) refl in (s.0 ∙ sym s₁.0, s.1 ∙ z ∙ sym s₁.1)
    same_shape (move x) n n₁ q q₁ s s₁ =
        let z : place_of e ≡ place_of f = rw (el, ep) refl in (
          ⊎_elim
              (λ k. ⊎_elim (λ k₁. k.0 ∙ sym k₁.0) (λ k₁. absurd (not_free x k.1 k₁.1)) s₁.1)
              (λ k. ⊎_elim (λ k₁. absurd (not_taken x k.1 k₁.1)) (λ k₁. k.0 ∙ sym k₁.0) s₁.1)
              s.1,
          s.0 ∙ z ∙ sym s₁.0,
        )

  pub first_one : (n n₁ : ℕ) (q q₁ : Place) → First K n q → First K n₁ q₁ → (n ≡ n₁) × (q ≡ q₁)
  first_one n n₁ q q₁ F G =
      let e = F.entry in
      let f = G.entry in
      let w = not_after_one (place_of e) (place_of f)
      (first_lowest old m₀ H root act room n q F f n₁ q₁ G.wrong) (first_lowest old m₀ H root act room n₁ q₁ G e n q F.wrong) in
      let el : e.l ≡ f.l = w.0 in
      let ep : part_of e ≡ part_of f = eq_of_mul-eq-mul_right (span f.l) (span_pos f.l) (part_of e) (part_of f) (rw el at w.1) in
      let pp : e.p ≡ f.p = omega (arith, e.low, f.low) in
      let ii : e.i ≡ f.i = omega (arith, e.low, f.low) in
      let et : e.t ≡ f.t = way_one K e.way f.way (ap suc el) pp in
      let ed : does K f ≡ does K e = cc in
      let sf = shape old m₀ H root act room f n₁ q₁ G.wrong in
      same_shape e f el ep (does K e) n n₁ q q₁ (shape old m₀ H root act room e n q F.wrong) (rw ed at sf)
