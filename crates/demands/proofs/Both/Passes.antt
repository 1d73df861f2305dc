-- Both passes, over any tables that meet the laws: every walk afterwards (Walks, walks), and the tables taken (Taken, needs).
-- Builds on Pass1.Passing and Pass2. Assumes nothing.
use Prim.Native.Nat.{ℕ, ◌<◌, ◌≤◌}
use mathlib.Core.Path.{◌≡◌, refl, ◌∙◌}
use Rattle.std.specs.Prelude.{None}
use mathlib.Core.List.{Memᴰ}
use native.Mathlib.Omega.{arith}
use lib.ListN.{length}
use Rattle.definitions.specs.Words.{Mem}
use Rattle.definitions.specs.Geometry.{part}
use Rattle.definitions.specs.Ranges.{Kind}
use Rattle.definitions.specs.Pass1.{Act, keep, move, follow, refuse, State}
use Rattle.definitions.specs.Pass2.{Fill}
use Rattle.definitions.specs.Walk.{End, nothing, wild, in_leaf, end_of, end_at, below, reads}
use Rattle.definitions.specs.Demand.{TablePlace}
use Rattle.definitions.specs.declared.Moved.{Moved}
use Rattle.demands.proofs.Shared.Lists.{Counts, counts_same}
use Rattle.demands.proofs.Shared.Walks.{reads_low, reads_few, not_wild, lev_le}
use Rattle.demands.proofs.Shared.Paging.{kind_in, In, Addr, at, walk, ended}
use Rattle.demands.proofs.Pass1.Passing.{Passing, Sound, said, was, GoesAt, Goes, Stop, Fixed}
use Rattle.demands.proofs.Pass2.Leaf.{Fit}
use Rattle.demands.proofs.Pass2.Growth.{Need}
use Rattle.demands.proofs.Pass2.Leaves.{AllIn}

module _ (K : Passing) where
  open K use {paging as W, old, used, m₀}
  open W use {H, root}

  abbrev pub before : ℕ → End
  before b = end_at old m₀ (was K b)

  pub record Walks (m : Mem) (u : ℕ) : Type 0 where
    pub tables : (b : ℕ) → Addr W b → (t : ℕ) → Memᴰ t (reads (kind_in W) H m root b) → t < u
    pub entries : (b : ℕ) → length (reads (kind_in W) H m root b) ≤ H
    pub ends : (b : ℕ) → Addr W b → ¬ (walk W m b ≡ wild)
    pub inside : (x : Moved) → Goes K x → (b : ℕ) → Addr W b → In x b → walk W m b ≡ in_leaf x.level x.entry
    pub left : (x : Moved) (b : ℕ) → Addr W b → GoesAt K x b → ((y : Moved) → Goes K y → ¬ In y b) → walk W m b ≡ nothing
    pub elsewhere : (b : ℕ) → Addr W b → ((x : Moved) → ¬ GoesAt K x b) → ((y : Moved) → Goes K y → ¬ In y b) → walk W m b ≡ before b

  -- the place `p` is on the way to a moved leaf's new address, and holds no table
  pub record Needed (p : TablePlace) : Type 0 where
    pub by : Moved
    pub moved : Goes K by
    pub above : by.level < p.height
    pub way : part p.height by.address ≡ p.part
    pub missing : p.height ≤ (was K by.address).level

  -- the used tables, now `u`, have grown by one for each such place
  abbrev pub Taken : ℕ → Type 0
  Taken u = Counts Needed used u

module _ {K : Passing} (S : Sound K) {s : State} (F : Fixed K s) where
  open K use {paging as W, old, act, used, m₀}
  open W use {H, root}
  open S.lawful use {pos, up, zero_absent}

  abbrev kind : ℕ → ℕ → Kind
  kind = kind_in W

  pub listed : (x : Moved) → Goes K x → Memᴰ x s.moved
  listed x o = (rw o.2 at (F.stop o.0 o.1)).1

  pub gone : (x : Moved) (b : ℕ) → Addr K.paging b → GoesAt K x b → walk K.paging s.mem b ≡ nothing
  unfolding end_at end_of
  gone x b r o = rw (F.same b r, (rw o at (F.stop b r)).0, zero_absent) refl

  -- the entry `k` of level `l`, at which the walk of `b` ended, pointed to no table, and reads as it did unless it was a leaf that moves
  abbrev Stopped : (b l k : ℕ) → Type 0
  Stopped b l k =
      (below old l (m₀ k) ≡ None) × (((x : Moved) → ¬ GoesAt K x b) → end_of (kind l (s.mem k)) l (s.mem k) ≡ end_of (old l (m₀ k)) l (m₀ k))

  stopped : (b : ℕ) → Addr W b → Stopped b (was K b).level (was K b).at
  stopped b r = turn (act l (part l b) (m₀ k)) refl (F.stop b r)
    where
      l : ℕ
      l = (was K b).level

      k : ℕ
      k = (was K b).at

      turn : (a : Act) → act l (part l b) (m₀ k) ≡ a → Stop K s.moved a (m₀ k) (s.mem k) → Stopped b l k
      turn keep ea d = let c = said S l (part l b) (m₀ k) keep ea in (c.0, λ n. rw d c.2)
      turn (move x) ea d = ((said S l (part l b) (m₀ k) (move x) ea).0, λ n. absurd (n x ea))
      turn (follow t v) ea d = absurd d
      turn (refuse n q) ea d = absurd d

  pub ends_before : (b : ℕ) → Addr K.paging b → ¬ (before K b ≡ wild)
  ends_before b r = not_wild old m₀ (was K b) (stopped b r).0

  pub tables_before : (b : ℕ) → Addr K.paging b → (t : ℕ) → Memᴰ t (reads K.old K.paging.H K.m₀ K.paging.root b) → t < K.used
  tables_before b r t e = reads_low kind up used F.good.P s.mem F.good.down H root b (F.good.on b r) t (rw (F.tables b r) e)

  pub kept : (b : ℕ) → Addr K.paging b → ((x : Moved) → ¬ GoesAt K x b) → walk K.paging s.mem b ≡ before K b
  unfolding end_at
  kept b r n = rw (F.same b r) ((stopped b r).1 n)

  pub fits : (x : Moved) → Goes K x → Fit K.paging x
  fits x o =
      let b = o.0 in
      let f = said S (was K b).level (part (was K b).level b) (m₀ (was K b).at) (move x) o.2 in
      record { is_leaf = rw f.1 f.2; low = omega (arith, f.1, pos, lev_le old H m₀ root b); address = f.3 }

  module _ (f : Fill) (R : AllIn K.paging s.moved s.mem K.used f.mem f.next) where
    pub walks : Walks K f.mem f.next
    walks =
        record {
          tables = λ b r. reads_low kind up f.next R.good.P f.mem R.good.down H root b (R.good.on b r);
          entries = λ b. reads_few kind H f.mem root b;
          ends = λ b r. not_wild kind f.mem (at W f.mem b) (ended W S.lawful f.mem f.next R.good b r).stop;
          inside = λ x o. R.inside x (listed x o);
          left = λ x b r o n. R.apart b r (λ y my. n y (F.sound y my)) ∙ gone x b r o;
          elsewhere = λ b r n₀ n₁. R.apart b r (λ y my. n₁ y (F.sound y my)) ∙ kept b r n₀;
        }

    pub needs : Taken K f.next
    needs = counts_same to from R.grown
      where
        same : (x : Moved) → Goes K x → at W s.mem x.address ≡ was K x.address
        same x o = F.same x.address (fits x o).address

        to : (p : TablePlace) → Needed K p → Need W s.moved s.mem p
        to p n =
            let missing : p.height ≤ (at W s.mem n.by.address).level = rw (same n.by n.moved) n.missing in
            record { by = n.by; one = listed n.by n.moved; above = n.above; way = n.way; missing = missing }

        from : (p : TablePlace) → Need W s.moved s.mem p → Needed K p
        from p n =
            let o = F.sound n.by n.one in
            record { by = n.by; moved = o; above = n.above; way = n.way; missing = rw (same n.by o) at n.missing }
