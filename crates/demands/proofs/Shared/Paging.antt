-- The words in which both passes are spoken of: tables at their new place (Paging), what their entries obey (Lawful), the walk of an
-- address (at, walk), and what holds of the tables between any two moves (Good): each has one place. Builds on Walks. Assumes nothing.
use Prim.Native.Nat.{ℕ, ◌*◌, ◌<◌, ◌≤◌}
use mathlib.Core.Path.{◌≡◌}
use Rattle.std.specs.Prelude.{Some}
use Rattle.definitions.specs.Words.{Mem}
use Rattle.definitions.specs.Geometry.{part}
use Rattle.definitions.specs.Entry.{fresh_table}
use Rattle.definitions.specs.Ranges.{Kind, absent, table, kind as read_in, table_address, all_tables}
use Rattle.definitions.specs.Walk.{Spot, End, below, stop_of, end_at}
use Rattle.definitions.specs.declared.Moved.{Moved}
use Rattle.definitions.specs.declared.Region.{Region}
use Rattle.demands.proofs.Shared.Walks.{Map, On, Down, Ends, ends}

-- the moved region; the root table, and its height
pub record Paging : Type 0 where
  pub region : Region
  pub H : ℕ
  pub root : ℕ

-- how entries read, how a fresh one points to a table, and the tables that there is room for
abbrev pub kind_in : Paging → ℕ → ℕ → Kind
kind_in W = read_in W.region

abbrev pub link_in : Paging → ℕ → ℕ
link_in W u = fresh_table (table_address W.region u)

abbrev pub size_in : Paging → ℕ
size_in W = all_tables W.region

pub record Lawful (W : Paging) : Type 0 where
  pub pos : 0 < W.H
  pub absent_any : (l l' e : ℕ) → kind_in W l e ≡ absent → kind_in W l' e ≡ absent
  pub zero_absent : (l : ℕ) → kind_in W l 0 ≡ absent
  pub up : (l e t : ℕ) → below (kind_in W) l e ≡ Some t → 0 < l
  pub link_table : (l u : ℕ) → 0 < l → u < size_in W → kind_in W l (link_in W u) ≡ table u

-- `b` is in the new span of `x`
abbrev pub In : Moved → ℕ → Type 0
In x b = part x.level b ≡ part x.level x.address

module _ (W : Paging) where
  open W use {H, root}

  abbrev pub at : Mem → ℕ → Spot
  at m b = stop_of (kind_in W) H m root b

  abbrev pub walk : Mem → ℕ → End
  walk m b = end_at (kind_in W) m (at m b)

  -- the addresses that the root table maps
  abbrev pub Addr : ℕ → Type 0
  Addr b = part H b ≡ 0

  -- the tables below `u` each have one place, and from there on all is free
  pub record Good (m : Mem) (u : ℕ) : Type 0 where
    pub P : Map
    pub on : (b : ℕ) → Addr b → On u P H root b
    pub down : Down (kind_in W) u P m
    pub free : (k : ℕ) → 512 * u ≤ k → m k ≡ 0

  pub ended : Lawful W → (m : Mem) (u : ℕ) (G : Good m u) (b : ℕ) → Addr b → Ends (kind_in W) u G.P m (at m b) b
  ended X m u G b r = ends (kind_in W) X.up u G.P m G.down H root b (G.on b r) X.pos
