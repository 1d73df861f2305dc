-- Pass 1, what is said of a step (Ok): the state after it, grown, with the cursors where they are to be (Post), or how pass 1 stands where it
-- stops (Halt), from which the reason follows (why). Builds on Sources. Assumes nothing.
use Prim.Native.Nat.{ℕ, suc, ◌+◌, ◌*◌, ◌<◌, ◌≤◌}
use mathlib.Core.Path.{◌≡◌, refl}
use mathlib.Core.List.Memᴰ
use mathlib.Core.List.{◌∷◌, Memᴰ}
use mathlib.Core.Bool.{true}
use mathlib.Core.Logic.{⊎_elim}
use native.Mathlib.Omega.{arith}
use lib.ListN.{length}
use Rattle.definitions.specs.Words.{put}
use Rattle.definitions.specs.Geometry.{span}
use Rattle.definitions.specs.Inputs.{place_at}
use Rattle.definitions.specs.Step.{Step, go, stop, and_then}
use Rattle.definitions.specs.Pass1.{Act, move, follow, refuse, State}
use Rattle.definitions.specs.Conditions.{bad, again, twice, taken, crowded}
use Rattle.definitions.specs.declared.Moved.{Moved}
use Rattle.definitions.specs.declared.Place.{Place}
use Rattle.definitions.proofs.Leaves.{ascending_distinct}
use Rattle.demands.proofs.Shared.Walks.{Map}
use Rattle.demands.proofs.Pass1.Passing.{Passing, act_as, Seen, Entry, Why}
use Rattle.demands.proofs.Pass1.Cursor.{At, Ahead}
use Rattle.demands.proofs.Pass1.Invariant.{Grow, grow_trans}
use Rattle.demands.proofs.Pass1.Sources.{Src, All, entry_at_lem, src_entry}

pub record Post (K : Passing) (s : State) (P : Map) (s' : State) (c' : ℕ → ℕ) : Type 0 where
  pub P' : Map
  pub grow : Grow s P s' P'
  pub all : All K s' P' c'

-- why the entry of level `l` that maps `p`, the word `k`, is refused
pub data Fault (K : Passing) (s : State) (l p k : ℕ) : ℕ → Place → Type 0 where
  refusing : {n : ℕ} {q : Place} → act_as K l p k ≡ refuse n q → Fault K s l p k n q
  reaching : {t v : ℕ} {q : Place} → act_as K l p k ≡ follow t v → s.reached t ≡ true → q ≡ place_at (p * span l) l → Fault K s l p k 10 q
  taking : {x y : Moved} {q : Place} → act_as K l p k ≡ move x → Memᴰ y s.moved → y.address ≡ x.address → q ≡ place_at (p * span l) l
      → Fault K s l p k 14 q
  filling : {x : Moved} {q : Place} → act_as K l p k ≡ move x → ((y : Moved) → Memᴰ y s.moved → ¬ (y.address ≡ x.address))
      → K.room ≤ length s.moved → q ≡ place_at (p * span l) l → Fault K s l p k 15 q

-- how pass 1 stands where it stops: at the entry `i` of `t`
pub record Halt (K : Passing) (n : ℕ) (q : Place) : Type 0 where
  pub s : State
  pub P : Map
  pub c : ℕ → ℕ
  pub all : All K s P c
  pub t : ℕ
  pub l : ℕ
  pub i : ℕ
  pub at : At s.reached P t l i
  pub cursor : c t ≡ i
  pub ahead : Ahead s.reached P c t (suc (P.pre t) * span (suc l))
  pub fault : Fault K s l (P.pre t * 512 + i) (512 * t + i) n q

abbrev pub Ok : Passing → State → Map → (ℕ → ℕ) → Step State → Type 0
Ok K s P c' (go s') = Post K s P s' c'
Ok K s P c' (stop n q) = Halt K n q

pub grow_ok : (K : Passing) {s s₁ : State} {P P₁ : Map} (c : ℕ → ℕ) → Grow s P s₁ P₁ → (r : Step State) → Ok K s₁ P₁ c r → Ok K s P c r
grow_ok K c g (stop n q) o = o
grow_ok K c g (go s₂) o = record { P' = o.P'; grow = grow_trans g o.grow; all = o.all }

pub next_ok : (K : Passing) (s : State) (P : Map) (c₁ c₂ : ℕ → ℕ) (r : Step State) (f : State → Step State) → Ok K s P c₁ r
    → ((s₁ : State) (P₁ : Map) → Grow s P s₁ P₁ → All K s₁ P₁ c₁ → Ok K s₁ P₁ c₂ (f s₁)) → Ok K s P c₂ (and_then r f)
unfolding and_then
next_ok K s P c₁ c₂ (stop n q) f o k = o
next_ok K s P c₁ c₂ (go s₁) f o k = grow_ok K c₂ o.grow (f s₁) (k s₁ o.P' o.grow o.all)

-- what is asked of the visit of a table of height `h`: its cursor goes from 0 to 512, and no other moves
abbrev pub Visits : Passing → ℕ → (ℕ → ℕ → State → Step State) → Type 0
Visits K h on =
    (t p : ℕ) (s : State) (P : Map) (c : ℕ → ℕ) → All K s P c → c t ≡ 0 → Seen s P t h p → 0 < h → Ahead s.reached P c t (suc p * span h)
    → Ok K s P (put c t 512) (on t p s)

-- ---- the reason
module _ {K : Passing} {n : ℕ} {q : Place} (h : Halt K n q) where
  open h use {s, P, c, all, t, l, i, at, cursor}
  open all use {inv, hist}

  abbrev k : ℕ
  k = 512 * t + i

  abbrev p : ℕ
  p = P.pre t * 512 + i

  this : (a : Act) → act_as K l p k ≡ a → Entry K a
  this = entry_at_lem inv at

  -- an entry that is done is another one
  other : {a : Act} (r : Src K s P c a) → ¬ (k ≡ 512 * r.t + r.i)
  other r w =
      let et : t ≡ r.t = omega (arith, r.at.low, at.low) in
      let ei : i ≡ r.i = omega (arith, r.at.low, at.low) in
      let d : i < c t = rw (et, ei) r.done in
      omega (arith, cursor)

  reason : {n : ℕ} {q : Place} → Fault K s l p k n q → Why K n q
  unfolding this
  reason (refusing {n} {q} ea) = bad (this (refuse n q) ea)
  reason (reaching {t = t'} {v} ea e w) =
      ⊎_elim
      (λ e. again (this (follow K.paging.root v) (rw e at ea)) w)
      (λ r. twice (this (follow t' v) ea) (src_entry inv (follow t' r.0) r.1) (other r.1) w)
      (hist.parent t' e)
  reason (taking {x} {y} ea my e w) = let r = hist.source y my in taken (this (move x) ea) (src_entry inv (move y) r) (other r) e w
  reason (filling {x} ea free h w) =
      crowded (this (move x) ea) (x ∷ s.moved) ((λ e. free x e refl), ascending_distinct s.moved hist.tidy)
      (λ y e. ⊎_elim (λ d. rw d (this (move x) ea)) (λ d. src_entry inv (move y) (hist.source y d)) (Memᴰ.cases_cons e))
      (omega arith)
      w

  pub why : Why K n q
  why = reason h.fault
