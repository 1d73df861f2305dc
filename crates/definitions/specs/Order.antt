-- The order of places, and the first of them at which something is wrong in pass 1, or in the way in pass 2 (§7.1): stated by
-- what is done at single entries, without the passes' state.
-- Assumes nothing.
use Rattle.std.specs.Prelude.{◌≡◌, ◌⊎◌, ℕ, ◌+◌, ◌≤◌, ◌<◌, length}
use mathlib.Core.List.{List, Memᴰ}
use Rattle.definitions.specs.Words.{Mem}
use Rattle.definitions.specs.Geometry.{part}
use Rattle.definitions.specs.Inputs.{Place, place_at, Job}
use Rattle.definitions.specs.Ranges.{Kind, kind, used_tables, all_tables}
use Rattle.definitions.specs.Pass1.{Moved, Act, move, follow, refuse}
use Rattle.definitions.specs.Build.{height, plan_of, root, build}
use Rattle.definitions.specs.Demand.{Met, word_of, part_of, start_of, place_of, act_at, stop_before, Moves, TablePlace, Needed, Distinct}
use Rattle.definitions.specs.Conditions.{BadInput, BadTables, BadPlaces, None}

-- ---- the order of places, for both passes: the address is lower, or the same and the level is higher. In pass 1, over the
-- places of entries, it is walk order (§7.4); in pass 2, over new addresses and the levels on the way to them, it is the order
-- of §8.1, "by ascending new address, each from the moved root down"
abbrev pub Earlier : Place → Place → Type 0
Earlier p q = (p.address < q.address) ⊎ ((p.address ≡ q.address) × (q.level < p.level))

-- ---- in an image: read says what an entry is, m has the words, t₀ is the root table, of height h₀
module _ (read : ℕ → ℕ → Kind) (m : Mem) (h₀ t₀ : ℕ) where
  -- the entries that are reached, and their order. What lies on the way to one is earlier, so that all ways may count
  abbrev Entry : Type 0
  Entry = Met read m h₀ t₀

  abbrev pub Before : Entry → Entry → Type 0
  Before b e = Earlier (place_of b) (place_of e)

  -- does: what is done at an entry of a level that maps a part
  module _ (does : ℕ → ℕ → ℕ → Act) where
    abbrev pub done_at : Entry → Act
    done_at e = does e.l (part_of e) (m (word_of e))

    -- an entry before e moves as y
    abbrev pub MovesBefore : Entry → Moved → Type 0
    MovesBefore e y = (b : Entry) × Before b e × (done_at b ≡ move y)

    -- no entry before e moves to address a
    abbrev pub Free : Entry → ℕ → Type 0
    Free e a = (b : Entry) (y : Moved) → Before b e → done_at b ≡ move y → ¬ (y.address ≡ a)

    -- room: for how many moved leaves
    module _ (room : ℕ) where
      -- what is wrong at entry e, by what is earlier alone. refused: 9, 11, 12 or 13 by the entry itself; to_root, to_same: it leads
      -- to the root, or to a table that an earlier one leads to; taken: it moves to an address that an earlier one moves to;
      -- full: it moves, to an address that is free, and earlier leaves that move are as many as there is room for
      pub data Wrong (e : Entry) : ℕ → Place → Type 0 where
        refused : {n : ℕ} {q : Place} → done_at e ≡ refuse n q → Wrong e n q
        to_root : {v : ℕ} {q : Place} → done_at e ≡ follow t₀ v → q ≡ place_of e → Wrong e 10 q
        to_same : {t v v₁ : ℕ} {q : Place} → done_at e ≡ follow t v → (b : Entry) → Before b e → done_at b ≡ follow t v₁ → q ≡ place_of e → Wrong e 10 q
        taken : {x y : Moved} {q : Place} → done_at e ≡ move x → (b : Entry) → Before b e → done_at b ≡ move y → y.address ≡ x.address
            → q ≡ place_of e → Wrong e 14 q
        full : {x : Moved} {q : Place} → done_at e ≡ move x → Free e x.address → (xs : List Moved) → Distinct xs
            → ((y : Moved) → Memᴰ y xs → MovesBefore e y) → room ≤ length xs → q ≡ place_of e → Wrong e 15 q

      -- number n at place q is the first that is wrong
      pub record First (n : ℕ) (q : Place) : Type 0 where
        pub entry : Entry
        pub wrong : Wrong entry n q
        -- nothing is wrong at an earlier entry
        pub none : (e : Entry) → Before e entry → (n' : ℕ) (q' : Place) → ¬ Wrong e n' q'
        -- the leaves that move before it fit the room: at number 15 they fill it
        pub fits : (xs : List Moved) → Distinct xs → ((y : Moved) → Memᴰ y xs → MovesBefore entry y) → length xs ≤ room

-- ---- of a job
abbrev pub FirstBad : Job → ℕ → Place → Type 0
FirstBad j = First (kind j.region) j.image (height j) (root j) (act_at j) (plan_of j).room

-- ---- pass 2

-- a moved leaf needs table p, and would have it linked before place q: a table of height h is linked at an entry of level h,
-- on the way to the leaf's new address
pub record NeededBefore (j : Job) (q : Place) (p : TablePlace) : Type 0 where
  pub need : Needed j p
  pub earlier : Earlier (place_at need.leaf.address p.height) q

-- what is in the way at place q, by what is earlier alone
pub data InWay (j : Job) : ℕ → Place → Type 0 where
  -- something stands there: 16, 17 or 18, which hang on no room
  stands : {n : ℕ} {q : Place} → BadPlaces j n q → ¬ (n ≡ 19) → InWay j n q
  -- nothing stands there, x needs a table there that nothing earlier needs, and earlier needs are as many as tables are free
  no_table : {b l : ℕ} {x : Moved} {q : Place} → Moves j b x → x.level < l → l ≤ (stop_before j x.address).level → q ≡ place_at x.address l
      → ((n : ℕ) → BadPlaces j n q → n ≡ 19) → ¬ NeededBefore j q (record { height = l; part = part l x.address })
      → (ps : List TablePlace) → Distinct ps → ((p : TablePlace) → Memᴰ p ps → NeededBefore j q p)
      → all_tables j.region ≤ used_tables j.region + length ps → InWay j 19 q

-- number n at place q is the first in the way
pub record FirstInWay (j : Job) (n : ℕ) (q : Place) : Type 0 where
  pub in_way : InWay j n q
  -- nothing is in the way at an earlier place
  pub none : (n' : ℕ) (q' : Place) → Earlier q' q → ¬ InWay j n' q'
  -- the tables that are needed before it are free: at number 19 they are all that are
  pub fits : (ps : List TablePlace) → Distinct ps → ((p : TablePlace) → Memᴰ p ps → NeededBefore j q p)
      → used_tables j.region + length ps ≤ all_tables j.region

-- ---- §7.1, "gives the first that applies": Proper j → InOrder j
pub record InOrder (j : Job) : Type 0 where
  -- a refused build: an input's condition; or none of these, and the first in walk order; or none of both, and the first in
  -- the way of pass 2
  pub given : ¬ ((build j).report.number ≡ 0) → let n = (build j).report.number in let q = (build j).report.place in
      BadInput j n q ⊎ (None (BadInput j) × FirstBad j n q) ⊎ (None (BadInput j) × None (BadTables j) × FirstInWay j n q)
  -- the same by the numbers: those of pass 1 are 9, but of the root, to 15
  pub numbers : 9 ≤ (build j).report.number → (build j).report.number < 16 → ((build j).report.number ≡ 9 → (build j).report.place.level < height j)
      → FirstBad j (build j).report.number (build j).report.place
  -- and those of pass 2 are from 16 on
  pub place_numbers : 16 ≤ (build j).report.number → FirstInWay j (build j).report.number (build j).report.place
  -- the place is that of the entry: the first address that it maps, and its level
  pub place : (n : ℕ) (q : Place) (f : FirstBad j n q) → (q.address ≡ start_of f.entry) × (q.level ≡ f.entry.l)
  -- and where no input's condition holds, the first in walk order is what is reported
  pub only : (n : ℕ) (q : Place) → None (BadInput j) → FirstBad j n q → ((build j).report.number ≡ n) × ((build j).report.place ≡ q)
  -- and where no condition of pass 1 holds either, the first in the way is
  pub only_place : (n : ℕ) (q : Place) → None (BadInput j) → None (BadTables j) → FirstInWay j n q
      → ((build j).report.number ≡ n) × ((build j).report.place ≡ q)
