-- Both passes of a job: where pass 2 goes through, none of its conditions of refusal holds (no_bad_places). Builds on RoomOnly.
-- Assumes nothing.
use Prim.Native.Nat.{ℕ}
use native.Mathlib.Omega.{arith}
use Rattle.definitions.specs.Inputs.{Job}
use Rattle.definitions.specs.Ranges.{used_tables}
use Rattle.definitions.specs.Pass1.{State}
use Rattle.definitions.specs.Pass2.{Fill}
use Rattle.definitions.specs.Demand.{Proper}
use Rattle.definitions.specs.Conditions.{BadPlaces}
use Rattle.definitions.specs.declared.Place.{Place}
use Rattle.definitions.proofs.Checks.{Good}
use Rattle.demands.proofs.Shared.Lists.{within_length}
use Rattle.demands.proofs.Pass1.Passing.{Sound, Fixed}
use Rattle.demands.proofs.Pass2.Leaves.{AllIn}
use Rattle.demands.proofs.Both.Passes.{Taken, needs, listed}
use Rattle.demands.proofs.Both.Sound.{paging, passing, sound}
use Rattle.demands.proofs.Both.Bridge.{goes, needed_back}
use Rattle.demands.proofs.Both.Left.{tables_same, used_fits}
use Rattle.demands.proofs.Both.RoomOnly.{TooMany, room_only}

module _ (j : Job) (proper : Proper j) (good : Good j) {s : State} (X : Fixed (passing j) s)
    (f : Fill) (R : AllIn (paging j) s.moved s.mem (used_tables j.region) f.mem f.next) where
  S : Sound (passing j)
  S = sound j proper good

  grew : Taken (passing j) f.next
  grew = needs S X f R

  enough : ¬ TooMany j
  enough t =
      let most = within_length t.0 grew.list t.1 (λ p e. grew.all p (needed_back j p (t.2 p e))) in
      omega (arith, t.3, grew.count, R.fits (used_fits j good), tables_same j)

  pub no_bad_places : (n : ℕ) (q : Place) → ¬ BadPlaces j n q
  no_bad_places n q b = enough (room_only j proper good X R n q (λ c x m lo. listed S X x (goes j c x m)) b).1
