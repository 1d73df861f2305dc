-- Pass 1, its invariant (Inv): every table that is seen is done below its cursor and as it was from there on. It holds after the entry at
-- a cursor is done (advance) and after a table is marked (mark). Builds on Passing and Cursor. Assumes nothing.
use Prim.Native.Nat.{ℕ, suc, ◌+◌, ◌*◌, ◌<◌, ◌≤◌}
use mathlib.Core.Path.{◌≡◌, refl, sym, ◌∙◌}
use mathlib.Core.List.{List, Memᴰ}
use mathlib.Core.Bool.{Bool, true, false}
use native.Mathlib.Omega.{arith}
use Rattle.definitions.specs.Words.{Mem, put}
use Rattle.definitions.specs.Pass1.{Act, keep, move, follow, refuse, State}
use Rattle.definitions.specs.declared.Moved.{Moved}
use Rattle.definitions.proofs.Splits.{on_eq, impossible}
use Rattle.definitions.proofs.Puts.{put_same, put_other}
use Rattle.demands.proofs.Shared.Walks.{Map, stand}
use Rattle.demands.proofs.Pass1.Passing.{Passing, act_as, Seen, Way}
use Rattle.demands.proofs.Pass1.Cursor.{At, same_level}

-- the entry `e` of level `l`, which maps `p`, has become `e'`
abbrev pub Done : State → Map → (l p : ℕ) → Act → (e e' : ℕ) → Type 0
Done s P l p keep e e' = e' ≡ e
Done s P l p (move x) e e' = (e' ≡ 0) × Memᴰ x s.moved
Done s P l p (follow t v) e e' = (e' ≡ v) × Seen s P t l p
Done s P l p (refuse n q) e e' = ⊥

abbrev pub DoneAt : Passing → State → Map → (t l i : ℕ) → Type 0
DoneAt K s P t l i = Done s P l (P.pre t * 512 + i) (act_as K l (P.pre t * 512 + i) (512 * t + i)) (K.m₀ (512 * t + i)) (s.mem (512 * t + i))

-- each table is done below its cursor `c` and as it was from there on; a table not seen is as it was, and its cursor is out of the way
pub record Inv (K : Passing) (s : State) (P : Map) (c : ℕ → ℕ) : Type 0 where
  pub done : (t l i : ℕ) → At s.reached P t l i → i < c t → DoneAt K s P t l i
  pub raw : (t i : ℕ) → i < 512 → c t ≤ i → s.mem (512 * t + i) ≡ K.m₀ (512 * t + i)
  pub unseen : (t i : ℕ) → s.reached t ≡ false → i < 512 → s.mem (512 * t + i) ≡ K.m₀ (512 * t + i)
  pub aside : (t : ℕ) → s.reached t ≡ false → (c t ≡ 512) × (P.ht t ≡ 0)
  pub low : (t : ℕ) → s.reached t ≡ true → t < K.used
  pub reached : (t : ℕ) → s.reached t ≡ true → Way K t (P.ht t) (P.pre t)

pub seen_at : {s : State} {P : Map} {t l p i : ℕ} → Seen s P t (suc l) p → i < 512 → At s.reached P t l i
seen_at z hi = record { seen = z.seen; height = z.height; low = hi }

pub apart : (s : State) (t t₁ : ℕ) → s.reached t ≡ true → s.reached t₁ ≡ false → ¬ (t₁ ≡ t)
apart s t t₁ st e w = impossible (cc)

-- ---- what is seen stays seen, in its place, and what is moved stays moved

pub record Grow (s : State) (P : Map) (s' : State) (P' : Map) : Type 0 where
  pub seen : (t : ℕ) → s.reached t ≡ true → s'.reached t ≡ true
  pub ht : (t : ℕ) → s.reached t ≡ true → P'.ht t ≡ P.ht t
  pub pre : (t : ℕ) → s.reached t ≡ true → P'.pre t ≡ P.pre t
  pub moved : (x : Moved) → Memᴰ x s.moved → Memᴰ x s'.moved

-- where no other table is seen
pub grow_moved : (s s' : State) (P : Map) → s'.reached ≡ s.reached → ((x : Moved) → Memᴰ x s.moved → Memᴰ x s'.moved) → Grow s P s' P
grow_moved s s' P same sub = record { seen = λ t e. rw same e; ht = λ t e. refl; pre = λ t e. refl; moved = sub }

pub grow_trans : {s s₁ s₂ : State} {P P₁ P₂ : Map} → Grow s P s₁ P₁ → Grow s₁ P₁ s₂ P₂ → Grow s P s₂ P₂
grow_trans g g₁ =
    record {
      seen = λ t e. g₁.seen t (g.seen t e);
      ht = λ t e. g₁.ht t (g.seen t e) ∙ g.ht t e;
      pre = λ t e. g₁.pre t (g.seen t e) ∙ g.pre t e;
      moved = λ x e. g₁.moved x (g.moved x e);
    }

pub seen_grow : {s s' : State} {P P' : Map} {t h p : ℕ} → Grow s P s' P' → Seen s P t h p → Seen s' P' t h p
seen_grow {t = t} g z = record { seen = g.seen t z.seen; height = g.ht t z.seen ∙ z.height; prefix = g.pre t z.seen ∙ z.prefix }

pub at_grow : {s s' : State} {P P' : Map} {t l i : ℕ} → Grow s P s' P' → At s.reached P t l i → At s'.reached P' t l i
at_grow {t = t} g a = record { seen = g.seen t a.seen; height = g.ht t a.seen ∙ a.height; low = a.low }

done_grow : {s s' : State} {P P' : Map} → Grow s P s' P' → (l p : ℕ) (a : Act) (e e' : ℕ) → Done s P l p a e e' → Done s' P' l p a e e'
done_grow g l p keep e e' d = d
done_grow g l p (move x) e e' d = (d.0, g.moved x d.1)
done_grow g l p (follow t v) e e' d = (d.0, seen_grow g d.1)
done_grow g l p (refuse n q) e e' d = d

done_at_grow : (K : Passing) (s s' : State) (P P' : Map) → Grow s P s' P' → (t l i : ℕ) → s.reached t ≡ true → s'.mem (512 * t + i) ≡ s.mem (512 * t + i)
    → DoneAt K s P t l i → DoneAt K s' P' t l i
done_at_grow K s s' P P' g t l i st em d =
    rw (g.pre t st, em) (done_grow g l (P.pre t * 512 + i) (act_as K l (P.pre t * 512 + i) (512 * t + i)) (K.m₀ (512 * t + i)) (s.mem (512 * t + i)) d)

-- ---- the entry `i` of `t`, at the cursor, is done

-- the state with this memory and these leaves
abbrev pub become : State → Mem → List Moved → State
become s m ms = record { mem = m; reached = s.reached; moved = ms }

module _ {K : Passing} {s : State} {P : Map} {c : ℕ → ℕ} (I : Inv K s P c) {t l i : ℕ} (a : At s.reached P t l i) (ci : c t ≡ i)
    (m₁ : Mem) (ms : List Moved) where
  abbrev s₁ : State
  s₁ = become s m₁ ms

  pub advance : ((x : Moved) → Memᴰ x s.moved → Memᴰ x ms) → ((j : ℕ) → ¬ (j ≡ 512 * t + i) → m₁ j ≡ s.mem j)
      → DoneAt K (become s m₁ ms) P t l i → Inv K (become s m₁ ms) P (put c t (suc i))
  advance sub off d =
      record {
        done = λ t₁ l₁ j a₁ hc.
            let keeps : j < c t₁ → ¬ (512 * t₁ + j ≡ 512 * t + i) → DoneAt K s₁ P t₁ l₁ j = λ h n.
            done_at_grow K s s₁ P P g t₁ l₁ j a₁.seen (off (512 * t₁ + j) n) (I.done t₁ l₁ j a₁ h) in
            on_eq t₁ t
            (λ et.
            let hc' = rw (put_same c t (suc i) t₁ et) at hc in
            on_eq j i
            (λ ej. rw (et, ej, same_level a a₁ et) d)
            (λ n. keeps (rw et (omega arith)) (omega (arith, a.low, a₁.low))))
            (λ n. keeps (rw (put_other c t (suc i) t₁ n) at hc) (omega (arith, a.low, a₁.low)));
        raw = λ t₁ j hj hc.
            on_eq t₁ t
            (λ et. let hc' = rw (put_same c t (suc i) t₁ et) at hc in off (512 * t₁ + j) (omega (arith, a.low)) ∙ I.raw t₁ j hj (rw et (omega arith)))
            (λ n. off (512 * t₁ + j) (omega (arith, a.low)) ∙ I.raw t₁ j hj (rw (put_other c t (suc i) t₁ n) at hc));
        unseen = λ t₁ j e hj. off (512 * t₁ + j) (λ w. apart s t t₁ a.seen e (omega (arith, a.low))) ∙ I.unseen t₁ j e hj;
        aside = λ t₁ e. rw (put_other c t (suc i) t₁ (apart s t t₁ a.seen e)) (I.aside t₁ e);
        low = I.low;
        reached = I.reached;
      }
    where
      g : Grow s P s₁ P
      g = grow_moved s s₁ P refl sub

-- ---- the table `t` is marked

abbrev pub seeing : State → ℕ → State
seeing s t = record { mem = s.mem; reached = put s.reached t true; moved = s.moved }

pub mark_grow : (s : State) (P : Map) (t h p : ℕ) → s.reached t ≡ false → Grow s P (seeing s t) (stand P t h p)
mark_grow s P t h p new =
    let other : (t₁ : ℕ) → s.reached t₁ ≡ true → ¬ (t₁ ≡ t) = λ t₁ e w. apart s t₁ t e new (sym w) in
    record {
      seen = λ t₁ e. put_other s.reached t true t₁ (other t₁ e) ∙ e;
      ht = λ t₁ e. put_other P.ht t h t₁ (other t₁ e);
      pre = λ t₁ e. put_other P.pre t p t₁ (other t₁ e);
      moved = λ x e. e;
    }

-- another table was seen before exactly as after
pub seen_back : (s : State) (t t₁ : ℕ) (b : Bool) → put s.reached t true t₁ ≡ b → ¬ (t₁ ≡ t) → s.reached t₁ ≡ b
seen_back s t t₁ b e n = sym (put_other s.reached t true t₁ n) ∙ e

module _ {K : Passing} {s : State} {P : Map} {c : ℕ → ℕ} (I : Inv K s P c) (t h p : ℕ)
    (low : t < K.used) (new : s.reached t ≡ false) (way : Way K t h p) where
  pub mark : Inv K (seeing s t) (stand P t h p) (put c t 0)
  mark =
      record {
        done = λ t₁ l₁ j a hc.
            on_eq t₁ t
            (λ w. absurd (omega (arith, put_same c t 0 t₁ w)))
            (λ n.
            let st = back t₁ true a.seen n in
            let a₁ : At s.reached P t₁ l₁ j = record { seen = st; height = sym (put_other P.ht t h t₁ n) ∙ a.height; low = a.low } in
            done_at_grow K s (seeing s t) P (stand P t h p) (mark_grow s P t h p new) t₁ l₁ j st refl
            (I.done t₁ l₁ j a₁ (omega (arith, put_other c t 0 t₁ n))));
        raw = λ t₁ j hj hc. on_eq t₁ t (λ w. I.unseen t₁ j (rw w new) hj) (λ n. I.raw t₁ j hj (omega (arith, put_other c t 0 t₁ n)));
        unseen = λ t₁ j e hj. I.unseen t₁ j (back t₁ false e (fresh t₁ e)) hj;
        aside = λ t₁ e. let n = fresh t₁ e in rw (put_other c t 0 t₁ n, put_other P.ht t h t₁ n) (I.aside t₁ (back t₁ false e n));
        low = λ t₁ e. on_eq t₁ t (λ w. omega arith) (λ n. I.low t₁ (back t₁ true e n));
        reached = λ t₁ e.
            on_eq t₁ t
            (λ w. rw (put_same P.ht t h t₁ w, put_same P.pre t p t₁ w, w) way)
            (λ n. rw (put_other P.ht t h t₁ n, put_other P.pre t p t₁ n) (I.reached t₁ (back t₁ true e n)));
      }
    where
      fresh : (t₁ : ℕ) → put s.reached t true t₁ ≡ false → ¬ (t₁ ≡ t)
      fresh t₁ e w = impossible (cc (put_same s.reached t true t₁ w))

      back : (t₁ : ℕ) (b : Bool) → put s.reached t true t₁ ≡ b → ¬ (t₁ ≡ t) → s.reached t₁ ≡ b
      back = seen_back s t
