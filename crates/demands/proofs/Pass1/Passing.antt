-- Pass 1, what is said of it: what it is given (Passing) and what that obeys (Sound), where a leaf goes (Goes), what it leaves of every
-- walk, table and entry (Fixed), or why it refuses (Why). Builds on Shared and Visit. Assumes nothing.
use Prim.Native.Nat.{ℕ, suc, ◌+◌, ◌*◌, ◌<◌, ◌≤◌}
use mathlib.Core.Path.{◌≡◌}
use Rattle.std.specs.Prelude.{None, Some}
use mathlib.Core.List.{List, [], Memᴰ}
use mathlib.Core.Bool.{true, false}
use Rattle.definitions.specs.Words.{Mem, put}
use Rattle.definitions.specs.Geometry.{part}
use Rattle.definitions.specs.Step.{Step, go, stop}
use Rattle.definitions.specs.Ranges.{Kind, leaf}
use Rattle.definitions.specs.Pass1.{Act, keep, move, follow, refuse, State}
use Rattle.definitions.specs.Walk.{Spot, end_of, below, stop_of, reads}
use Rattle.definitions.specs.Demand as T
use Rattle.definitions.specs.Demand.{remains}
use Rattle.definitions.specs.Conditions as C
use Rattle.definitions.specs.declared.Moved.{Moved}
use Rattle.definitions.specs.declared.Place.{Place}
use Rattle.definitions.proofs.Leaves.{Ascending}
use Rattle.demands.proofs.Shared.Walks.{Map}
use Rattle.demands.proofs.Shared.Paging.{Paging, kind_in, Lawful, at, Addr, Good}
use Rattle.demands.proofs.Pass1.Visit.{visit}

-- the tables at their new place; how entries read before; what is done at an entry; how many leaves there is room for; the used tables,
-- and their words before
pub record Passing : Type 0 where
  pub paging : Paging
  pub old : ℕ → ℕ → Kind
  pub act : ℕ → ℕ → ℕ → Act
  pub room : ℕ
  pub used : ℕ
  pub m₀ : Mem

-- what is done at the word `k`, an entry of level `l` that maps the part `p`
abbrev pub act_as : Passing → (l p k : ℕ) → Act
act_as K l p k = K.act l p (K.m₀ k)

-- what an act means for the entry `e` of level `l`
abbrev pub Says : Passing → (l e : ℕ) → Act → Type 0
Says K l e keep =
    (below K.old l e ≡ None) × (below (kind_in K.paging) l e ≡ None) × (end_of (kind_in K.paging l e) l e ≡ end_of (K.old l e) l e)
Says K l e (move x) = (below K.old l e ≡ None) × (x.level ≡ l) × (kind_in K.paging l x.entry ≡ leaf) × Addr K.paging x.address
Says K l e (follow t v) = (below K.old l e ≡ Some t) × (below (kind_in K.paging) l v ≡ Some t) × (t < K.used) × (0 < l)
Says K l e (refuse n q) = Unit {0}

pub record Sound (K : Passing) : Type 0 where
  pub lawful : Lawful K.paging
  pub root_low : K.paging.root < K.used
  pub free : (k : ℕ) → 512 * K.used ≤ k → K.m₀ k ≡ 0
  pub says : (l p e : ℕ) → Says K l e (K.act l p e)

pub said : {K : Passing} → Sound K → (l p e : ℕ) (a : Act) → K.act l p e ≡ a → Says K l e a
said S l p e a w = rw w at (S.says l p e)

-- the table `t` is seen, in its place
pub record Seen (s : State) (P : Map) (t h p : ℕ) : Type 0 where
  pub seen : s.reached t ≡ true
  pub height : P.ht t ≡ h
  pub prefix : P.pre t ≡ p

module _ (K : Passing) where
  open K use {paging as W, old, act, room, used, m₀}
  open W use {H, root}

  -- the walk of `b` in the tables as they were
  abbrev pub was : ℕ → Spot
  was b = stop_of old H m₀ root b

  -- the walk of `b` ended in an entry that moves as `x`
  abbrev pub GoesAt : Moved → ℕ → Type 0
  GoesAt x b = act (was b).level (part (was b).level b) (m₀ (was b).at) ≡ move x

  abbrev pub Goes : Moved → Type 0
  Goes x = (b : ℕ) × Addr W b × GoesAt x b

  abbrev pub Way : ℕ → ℕ → ℕ → Type 0
  Way = T.Way old m₀ H root

  abbrev pub Entry : Act → Type 0
  Entry = C.Calls old m₀ H root act

  abbrev pub Why : ℕ → Place → Type 0
  Why = C.Faulty old m₀ H root act room

  -- what has become of the entry at which a walk ended
  abbrev pub Stop : List Moved → Act → (e e' : ℕ) → Type 0
  Stop ms keep e e' = e' ≡ e
  Stop ms (move x) e e' = (e' ≡ 0) × Memᴰ x ms
  Stop ms (follow t v) e e' = ⊥
  Stop ms (refuse n q) e e' = ⊥

  abbrev pub StopAt : State → Spot → ℕ → Type 0
  StopAt s w b = Stop s.moved (act w.level (part w.level b) (m₀ w.at)) (m₀ w.at) (s.mem w.at)

  -- what pass 1 leaves
  pub record Fixed (s : State) : Type 0 where
    pub good : Good W s.mem used
    pub same : (b : ℕ) → Addr W b → at W s.mem b ≡ was b
    pub stop : (b : ℕ) → Addr W b → StopAt s (was b) b
    pub tables : (b : ℕ) → Addr W b → reads (kind_in W) H s.mem root b ≡ reads old H m₀ root b
    pub sound : (x : Moved) → Memᴰ x s.moved → Goes x
    pub tidy : Ascending s.moved
    -- the tables reached are those that the walks read
    pub seen : (b : ℕ) → Addr W b → (t : ℕ) → Memᴰ t (reads old H m₀ root b) → s.reached t ≡ true
    pub read : (t : ℕ) → s.reached t ≡ true → (b : ℕ) × Addr W b × Memᴰ t (reads old H m₀ root b)
    -- a table that is reached has its place, and its entries are done; another is as it was
    pub way : (t : ℕ) → s.reached t ≡ true → (l : ℕ) × (p : ℕ) × Way t (suc l) p
    pub ways : {t h p : ℕ} → Way t h p → 0 < h → Seen s good.P t h p
    pub entries : (t l p i : ℕ) → Way t (suc l) p → i < 512
        → s.mem (512 * t + i) ≡ remains (act l (p * 512 + i) (m₀ (512 * t + i))) (m₀ (512 * t + i))
    pub unread : (t : ℕ) → s.reached t ≡ false → (good.P.ht t ≡ 0) × ((i : ℕ) → i < 512 → s.mem (512 * t + i) ≡ m₀ (512 * t + i))
    pub clean : (n : ℕ) (q : Place) → ¬ Why n q

  abbrev pub Passed : Step State → Type 0
  Passed (go s) = Fixed s
  Passed (stop n q) = Why n q

  abbrev pub started : State
  started = record { mem = m₀; reached = put (λ t. false) root true; moved = [] }

  unfoldable pub pass1 : Step State
  pass1 = visit act room H root 0 started
