-- Both passes of a job: what pass 1 leaves, in the words of the conditions of refusal: what stays ends as before (stays, as_before), and
-- walks end at the level at which they ended (stop_same); one moved leaf has an address (one_leaf). Builds on Passes and Bridge. Assumes nothing.
use Prim.Native.Nat.{ℕ, ◌/◌, ◌≤◌}
use mathlib.Core.Path.{◌≡◌, sym, ◌∙◌, ap}
use native.Mathlib.Omega.{arith}
use Rattle.definitions.specs.Inputs.{Job}
use Rattle.definitions.specs.Ranges.{used_tables, all_tables}
use Rattle.definitions.specs.Pass1.{State}
use Rattle.definitions.specs.Build.{geometry, height, plan_of}
use Rattle.definitions.specs.Walk.{Spot, nothing}
use Rattle.definitions.specs.Demand.{Proper, before, stop_before, Moves, Stays}
use Rattle.definitions.specs.declared.Moved.{Moved}
use Rattle.definitions.proofs.Geometry.{part_below}
use Rattle.definitions.proofs.Ranges.{region_sound}
use Rattle.definitions.proofs.Leaves.{ascending_one}
use Rattle.definitions.proofs.Checks.{Good}
use Rattle.demands.proofs.Shared.Paging.{Addr, at, walk}
use Rattle.demands.proofs.Pass1.Passing.{Fixed}
use Rattle.demands.proofs.Both.Passes.{listed, gone, kept}
use Rattle.demands.proofs.Both.Sound.{paging, passing, plan_is, sound}
use Rattle.demands.proofs.Both.Bridge.{goes_at, at_goes, goes, before_ends}

module _ (j : Job) (proper : Proper j) (good : Good j) {s : State} (X : Fixed (passing j) s) where
  -- a walk that still ends in something ended so before, in a leaf that stays
  pub stays : (a : ℕ) → Addr (paging j) a → ¬ (walk (paging j) s.mem a ≡ nothing) → Stays j a
  stays a r n x m = n (gone (sound j proper good) X x a r (goes_at j a x m.moves))

  pub as_before : (a : ℕ) → Addr (paging j) a → Stays j a → walk (paging j) s.mem a ≡ before j a
  as_before a r st =
      kept (sound j proper good) X a r (λ x g. st x (record { walked = part_below (height j) a r; moves = at_goes j a x g })) ∙ sym (before_ends j a)

  pub stop_same : (a : ℕ) → Addr (paging j) a → (at (paging j) s.mem a).level ≡ (stop_before j a).level
  unfolding stop_before
  stop_same a r = ap (λ (w : Spot). w.level) (X.same a r)

  -- one moved leaf has an address
  pub one_leaf : (b c : ℕ) (x y : Moved) → Moves j b x → Moves j c y → x.address ≡ y.address → x ≡ y
  one_leaf b c x y mx my =
      let S = sound j proper good in
      ascending_one s.moved X.tidy x y (listed S X x (goes j b x mx)) (listed S X y (goes j c y my))

pub tables_same : (j : Job) → all_tables (plan_of j).new ≡ all_tables j.region
unfolding all_tables
tables_same j = ap (λ (n : ℕ). n / 4096) (plan_is j).size

pub used_fits : (j : Job) → Good j → used_tables j.region ≤ all_tables (plan_of j).new
unfolding used_tables all_tables
used_fits j good = omega (arith, (plan_is j).size, (region_sound (geometry j).limit j.region good.region).fits)
