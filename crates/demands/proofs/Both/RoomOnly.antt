-- Both passes of a job: up to an address to which all leaves that move are in, nothing but the want of tables is in the way (room_only).
-- Builds on Left and Pass2.Leaves. Assumes nothing.
use Prim.Native.Nat.{ℕ, ◌+◌, ◌≤◌, ◌<◌}
use mathlib.Core.Path.{◌≡◌, refl, sym, ◌∙◌}
use mathlib.Core.List.{List, Memᴰ}
use native.Mathlib.Omega.{arith}
use lib.ListN.{length}
use Rattle.definitions.specs.Words.{Mem}
use Rattle.definitions.specs.Inputs.{Job}
use Rattle.definitions.specs.Ranges.{kind, used_tables, all_tables}
use Rattle.definitions.specs.Pass1.{State}
use Rattle.definitions.specs.Build.{plan_of}
use Rattle.definitions.specs.Walk.{nothing, in_leaf, past}
use Rattle.definitions.specs.Demand.{Proper, before, Moves, Stays, TablePlace, Needed, Distinct}
use Rattle.definitions.specs.Conditions.{BadPlaces, on_leaf, in_span, on_past, on_table, on_other, no_room}
use Rattle.definitions.specs.declared.Moved.{Moved}
use Rattle.definitions.specs.declared.Place.{Place}
use Rattle.definitions.proofs.Splits.{impossible}
use Rattle.definitions.proofs.Checks.{Good}
use Rattle.demands.proofs.Shared.Walks.{leaf_level}
use Rattle.demands.proofs.Shared.Paging.{Addr, at, walk}
use Rattle.demands.proofs.Pass1.Passing.{Fixed}
use Rattle.demands.proofs.Pass2.Leaves.{AllIn}
use Rattle.demands.proofs.Both.Passes.{fits}
use Rattle.demands.proofs.Both.Sound.{paging, passing, sound}
use Rattle.demands.proofs.Both.Bridge.{goes, lands_in, level}
use Rattle.demands.proofs.Both.Left.{as_before, stop_same}

-- more tables are needed than are free
abbrev pub TooMany : Job → Type 0
TooMany j =
    (ps : List TablePlace) × Distinct ps × ((p : TablePlace) → Memᴰ p ps → Needed j p)
    × (all_tables j.region < used_tables j.region + length ps)

-- a walk that ended at a pointer outside the region ended in no leaf that moves
pub past_stays : (j : Job) (a l e : ℕ) → before j a ≡ past l e → Stays j a
past_stays j a l e w y my = let d = level j a y my in impossible (cc)

-- the leaves `ys` are in
module _ (j : Job) (proper : Proper j) (good : Good j) {s : State} (X : Fixed (passing j) s) {ys : List Moved} {m : Mem} {u : ℕ}
    (R : AllIn (paging j) ys s.mem (used_tables j.region) m u) where
  there : (b : ℕ) (x : Moved) → Moves j b x → Addr (paging j) x.address
  there b x o = (fits (sound j proper good) X x (goes j b x o)).address

  -- what stays is still there
  pub still : (a : ℕ) → Addr (paging j) a → Stays j a → ¬ (before j a ≡ nothing) → walk (paging j) m a ≡ before j a
  still a r st n = let b = as_before j proper good X a r st in R.keep a r (λ z. n (sym b ∙ z)) ∙ b

  pub still_past : (a l e : ℕ) → Addr (paging j) a → before j a ≡ past l e → walk (paging j) m a ≡ past l e
  still_past a l e r w = still a r (past_stays j a l e w) (λ z. impossible (cc)) ∙ w

  pub still_leaf : (a l e : ℕ) → Addr (paging j) a → Stays j a → before j a ≡ in_leaf l e → walk (paging j) m a ≡ in_leaf l e
  still_leaf a l e r st w = still a r st (λ z. impossible (cc)) ∙ w

  -- all leaves that move to a or below are in
  abbrev UpTo : ℕ → Type 0
  UpTo a = (b : ℕ) (x : Moved) → Moves j b x → x.address ≤ a → Memᴰ x ys

  -- such a leaf is in its place
  in_place : (b : ℕ) (x : Moved) → Moves j b x → UpTo x.address → walk (paging j) m x.address ≡ in_leaf x.level x.entry
  in_place b x o up = R.inside x (up b x o (omega arith)) x.address (there b x o) refl

  pub room_only : (n : ℕ) (q : Place) → ((b : ℕ) (x : Moved) → Moves j b x → x.address ≤ q.address → Memᴰ x ys)
      → BadPlaces j n q → (n ≡ 19) × TooMany j
  room_only n q up (on_leaf {b} {l} {e} {x} o lo w st) =
      let v = still_leaf x.address l e (there b x o) st w in
      let c = in_place b x o up in
      let d : x.level ≡ l = cc in
      absurd (omega arith)
  room_only n q up (in_span {b} {c} {x} {y} o land lo) =
      let my = up c y land.leaf land.low in
      let v : walk (paging j) m x.address ≡ in_leaf y.level y.entry = R.inside y my x.address (there b x o) (lands_in j x.address c y land) in
      let w = in_place b x o up in
      let d : x.level ≡ y.level = cc in
      absurd (omega arith)
  room_only n q up (on_past {b} {l} {e} {x} o lo w) =
      let v = still_past x.address l e (there b x o) w in
      let c = in_place b x o up in
      impossible (cc)
  room_only n q up (on_table {b} {x} o lo) =
      let r = there b x o in
      let v = leaf_level (kind (plan_of j).new) m (at (paging j) m x.address) x.level x.entry (in_place b x o up) in
      absurd (omega (arith, R.lower x.address r, stop_same j proper good X x.address r))
  room_only n q up (on_other {b} {x} o el st some other) = absurd (other (sym (still x.address (there b x o) st some) ∙ in_place b x o up))
  room_only n q up (no_room o lo le ps d need h) = (refl, (ps, d, need, h))
