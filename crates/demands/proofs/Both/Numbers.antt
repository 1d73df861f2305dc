-- The numbers and places of the conditions of refusal: those of an entry, of pass 1 (tables_number) and of pass 2 (places_number).
-- Assumes nothing.
use Prim.Native.Nat.{ℕ, ◌+◌, ◌*◌, ◌<◌, ◌≤◌}
use mathlib.Core.Path.{◌≡◌}
use native.Mathlib.Omega.{arith}
use Rattle.definitions.specs.Geometry.{span}
use Rattle.definitions.specs.Inputs.{Job}
use Rattle.definitions.specs.Pass1.{refuse}
use Rattle.definitions.specs.Build.{plan_of}
use Rattle.definitions.specs.Demand.{act_at}
use Rattle.definitions.specs.Conditions.{BadEntry, BadTables, bad, again, twice, taken, crowded, BadPlaces, on_leaf, in_span, on_past, on_table, on_other, no_room}
use Rattle.definitions.specs.declared.Place.{Place}
use Rattle.definitions.proofs.Conditions.{refuse_iff, bad_entry_number}

-- the entry i of t, which maps the part p * 512 + i, is refused
pub entry_bad : (j : Job) (t l p i n : ℕ) (q : Place) → act_at j l (p * 512 + i) (j.image (512 * t + i)) ≡ refuse n q
    → BadEntry (plan_of j) l ((p * 512 + i) * span l) (j.image (512 * t + i)) n q
entry_bad j t l p i n q = (refuse_iff (plan_of j) l ((p * 512 + i) * span l) (j.image (512 * t + i)) n q).0

pub tables_number : (j : Job) (n : ℕ) (q : Place) → BadTables j n q → 0 < n
tables_number j n q (bad c) =
    let e = c.entry in
    (bad_entry_number (entry_bad j e.t e.l e.p e.i n q c.acted)).0
tables_number j n q (again e w) = omega arith
tables_number j n q (twice a b e w) = omega arith
tables_number j n q (taken a b e d w) = omega arith
tables_number j n q (crowded a xs d e h w) = omega arith

pub places_number : (j : Job) (n : ℕ) (q : Place) → BadPlaces j n q → 16 ≤ n
places_number j n q (on_leaf m lo w st) = omega arith
places_number j n q (in_span m land lo) = omega arith
places_number j n q (on_past m lo w) = omega arith
places_number j n q (on_table m lo) = omega arith
places_number j n q (on_other m el st there other) = omega arith
places_number j n q (no_room m lo le ps d need h) = omega arith
