-- Pass 1, where what it holds comes from (Hist): each table that is seen and each leaf that is moved has an entry that is done and called
-- for it (Src), and no two leaves have one address. It holds after a step (step_hist). Builds on Invariant. Assumes nothing.
use Prim.Native.Nat.{ℕ, ◌+◌, ◌*◌, ◌<◌, ◌≤◌}
use mathlib.Core.Path.{◌≡◌, refl, sym, ◌∙◌}
use Rattle.std.specs.Prelude.{Some}
use mathlib.Core.List.{Memᴰ}
use mathlib.Core.Bool.{true}
use mathlib.Core.Logic.{◌⊎◌, inl, inr, ⊎_elim}
use native.Mathlib.Omega.{arith}
use lib.ListN.{length}
use Rattle.definitions.specs.Pass1.{Act, keep, move, follow, refuse, State}
use Rattle.definitions.specs.Walk.{below}
use Rattle.definitions.specs.declared.Moved.{Moved}
use Rattle.definitions.proofs.Splits.{impossible}
use Rattle.definitions.proofs.Leaves.{Ascending}
use Rattle.demands.proofs.Shared.Walks.{Map}
use Rattle.demands.proofs.Pass1.Passing.{Passing, act_as, Sound, Seen, said, Entry}
use Rattle.demands.proofs.Pass1.Cursor.{At, Sorted}
use Rattle.demands.proofs.Pass1.Invariant.{Done, Inv, Grow, seen_grow, at_grow}

-- an entry that is done, and called for `a`
pub record Src (K : Passing) (s : State) (P : Map) (c : ℕ → ℕ) (a : Act) : Type 0 where
  pub t : ℕ
  pub l : ℕ
  pub i : ℕ
  pub at : At s.reached P t l i
  pub done : i < c t
  pub acted : act_as K l (P.pre t * 512 + i) (512 * t + i) ≡ a

-- where each table that is seen, and each leaf that is moved, comes from; no two moved leaves have one address; the root is seen, and what is
-- done is earlier in walk order than what is not
pub record Hist (K : Passing) (s : State) (P : Map) (c : ℕ → ℕ) : Type 0 where
  pub parent : (t : ℕ) → s.reached t ≡ true → (t ≡ K.paging.root) ⊎ ((v : ℕ) × Src K s P c (follow t v))
  pub source : (x : Moved) → Memᴰ x s.moved → Src K s P c (move x)
  pub uniq : (x y : Moved) (a : Src K s P c (move x)) (b : Src K s P c (move y)) → x.address ≡ y.address → 512 * a.t + a.i ≡ 512 * b.t + b.i
  pub tidy : Ascending s.moved
  pub small : length s.moved ≤ K.room
  pub top : Seen s P K.paging.root K.paging.H 0
  pub order : Sorted s.reached P c

pub record All (K : Passing) (s : State) (P : Map) (c : ℕ → ℕ) : Type 0 where
  pub inv : Inv K s P c
  pub hist : Hist K s P c

-- the entry `i` of `t`, in the tables as they were
abbrev pub entry_at_lem : {K : Passing} {s : State} {P : Map} {c : ℕ → ℕ} {t l i : ℕ} → Inv K s P c → At s.reached P t l i
    → (a : Act) → act_as K l (P.pre t * 512 + i) (512 * t + i) ≡ a → Entry K a
entry_at_lem {P = P} {t = t} {l = l} {i = i} I at a ea =
    record { entry = record { t = t; l = l; p = P.pre t; i = i; low = at.low; way = rw at.height at (I.reached t at.seen) }; acted = ea }

abbrev pub src_entry : {K : Passing} {s : State} {P : Map} {c : ℕ → ℕ} → Inv K s P c → (a : Act) → Src K s P c a → Entry K a
src_entry I a r = entry_at_lem I r.at a r.acted

src_listed : {K : Passing} {s : State} {P : Map} {c : ℕ → ℕ} → Inv K s P c → (x : Moved) → Src K s P c (move x) → Memᴰ x s.moved
src_listed I x r = (rw r.acted at (I.done r.t r.l r.i r.at r.done)).1

-- where an entry is done, the table to which it led is seen, in its place
pub led : {K : Passing} → Sound K → (s : State) (P : Map) (l p e e' t : ℕ) → below K.old l e ≡ Some t → (a : Act) → K.act l p e ≡ a → Done s P l p a e e'
    → Seen s P t l p
led S s P l p e e' t eo keep ea d = impossible (cc (said S l p e _ ea).0)
led S s P l p e e' t eo (move x) ea d = impossible (cc (said S l p e _ ea).0)
led S s P l p e e' t eo (follow t₁ v) ea d = let same : t₁ ≡ t = cc (said S l p e _ ea).0 in rw (← same) d.1
led S s P l p e e' t eo (refuse n q) ea d = absurd d

-- the leaf that `a` moves, if it moves one, goes where none went
abbrev pub New : State → Act → Type 0
New s a = (x : Moved) → a ≡ move x → (y : Moved) → Memᴰ y s.moved → ¬ (y.address ≡ x.address)

-- a step from the entry `k` on: what is known of the sources after it
module _ {K : Passing} {s : State} {P : Map} {c : ℕ → ℕ} (F : All K s P c) (s₂ : State) (P₂ : Map) (c₂ : ℕ → ℕ) (g : Grow s P s₂ P₂) (k : ℕ) (a₀ : Act)
    (up : (t : ℕ) → s.reached t ≡ true → c t ≤ c₂ t)
    (cut : (t j : ℕ) → s₂.reached t ≡ true → j < 512 → j < c₂ t → ((s.reached t ≡ true) × (j < c t)) ⊎ (512 * t + j ≡ k))
    (here : (a : Act) (r : Src K s₂ P₂ c₂ a) → 512 * r.t + r.i ≡ k → a₀ ≡ a) where
  src_grow : (a : Act) → Src K s P c a → Src K s₂ P₂ c₂ a
  src_grow a r =
      record {
        t = r.t;
        l = r.l;
        i = r.i;
        at = at_grow g r.at;
        done = omega (arith, r.done, up r.t r.at.seen);
        acted = rw (g.pre r.t r.at.seen) r.acted;
      }

  -- a source after the step is one before it, or the entry `k`
  src_back : (a : Act) (r : Src K s₂ P₂ c₂ a) → ((r' : Src K s P c a) × (512 * r'.t + r'.i ≡ 512 * r.t + r.i)) ⊎ (512 * r.t + r.i ≡ k)
  src_back a r =
      ⊎_elim
      (λ d.
      let was : At s.reached P r.t r.l r.i = record { seen = d.0; height = sym (g.ht r.t d.0) ∙ r.at.height; low = r.at.low } in
      inl (record { t = r.t; l = r.l; i = r.i; at = was; done = d.1; acted = rw (g.pre r.t d.0) at r.acted }, refl))
      inr
      (cut r.t r.i r.at.seen r.at.low r.done)

  pub step_hist : ((t : ℕ) → s₂.reached t ≡ true → (s.reached t ≡ true) ⊎ ((v : ℕ) × Src K s₂ P₂ c₂ (follow t v)))
      → ((x : Moved) → Memᴰ x s₂.moved → Memᴰ x s.moved ⊎ Src K s₂ P₂ c₂ (move x))
      → New s a₀ → Ascending s₂.moved → length s₂.moved ≤ K.room → Sorted s₂.reached P₂ c₂ → Hist K s₂ P₂ c₂
  step_hist seens moveds new tidy₂ small₂ order₂ =
      record {
        parent = λ t st. ⊎_elim (λ e. ⊎_elim inl (λ r. inr (r.0, src_grow (follow t r.0) r.1)) (F.hist.parent t e)) inr (seens t st);
        source = λ x mx. ⊎_elim (λ e. src_grow (move x) (F.hist.source x e)) (λ r. r) (moveds x mx);
        uniq = λ x y a b e.
            ⊎_elim
            (λ a'. ⊎_elim
            (λ b'. sym a'.1 ∙ F.hist.uniq x y a'.0 b'.0 e ∙ b'.1)
            (λ wb. absurd (new y (here (move y) b wb) x (src_listed F.inv x a'.0) e))
            (src_back (move y) b))
            (λ wa. ⊎_elim
            (λ b'. absurd (new x (here (move x) a wa) y (src_listed F.inv y b'.0) (sym e)))
            (λ wb. wa ∙ sym wb)
            (src_back (move y) b))
            (src_back (move x) a);
        tidy = tidy₂;
        small = small₂;
        top = seen_grow g F.hist.top;
        order = order₂;
      }
