-- Pass 1, one entry (entry_ok): it is kept, its leaf is taken out (moves), or its table is marked and visited (follows), and the cursor of
-- its table moves by one; or pass 1 stops at it (halt). Builds on Steps. Assumes nothing.
use Prim.Native.Nat.{ℕ, suc, ◌+◌, ◌*◌, ◌≤◌}
use mathlib.Core.Path.{◌≡◌, refl, sym, ◌∙◌, ap}
use mathlib.Core.List.{List, Memᴰ}
use mathlib.Core.Bool.{Bool, true, false}
use mathlib.Core.Logic.{◌⊎◌, inl, inr, ⊎_elim}
use native.Mathlib.Omega.{arith}
use lib.Dec.{leb}
use lib.ListN.{length}
use borrow.Author.Tests.{leb-true, leb-false}
use Rattle.definitions.specs.Words.{Mem, put}
use Rattle.definitions.specs.Geometry.{span}
use Rattle.definitions.specs.Inputs.{place_at}
use Rattle.definitions.specs.Step.{Step, go, unless}
use Rattle.definitions.specs.Pass1 as D
use Rattle.definitions.specs.Pass1.{Act, keep, move, follow, refuse, State, remember, without, pointed, perform}
use Rattle.definitions.specs.Demand.{later}
use Rattle.definitions.specs.declared.Moved.{Moved}
use Rattle.definitions.specs.declared.Place.{Place}
use Rattle.definitions.proofs.Splits.{on_eq, impossible}
use Rattle.definitions.proofs.Puts.{put_same, put_other, put_idle, put_put, put_swap}
use Rattle.definitions.proofs.Leaves.{Ascending, taken_true, taken_false, remember_adds}
use Rattle.definitions.proofs.Misreadings.{cleared, marked}
use Rattle.demands.proofs.Shared.Walks.{Map, stand}
use Rattle.demands.proofs.Pass1.Passing.{Passing, act_as, Sound, said, Seen, Way}
use Rattle.demands.proofs.Pass1.Cursor.{At, Ahead, same_level, sorted_plain, ahead_under, sorted_follow}
use Rattle.demands.proofs.Pass1.Invariant.{DoneAt, Inv, apart, Grow, grow_moved, grow_trans, at_grow, become, advance, seeing, seen_back, mark_grow, mark}
use Rattle.demands.proofs.Pass1.Sources.{Src, Hist, All, New, step_hist}
use Rattle.demands.proofs.Pass1.Steps.{Post, Fault, refusing, reaching, taking, filling, Halt, Ok, grow_ok, Visits}

module _ {K : Passing} (S : Sound K) {s : State} {P : Map} {c : ℕ → ℕ} (F : All K s P c) {t l i : ℕ} (at : At s.reached P t l i) (ci : c t ≡ i)
    (ah : Ahead s.reached P c t (suc (P.pre t) * span (suc l))) where
  open F use {inv as I, hist}
  open K use {room}

  abbrev k : ℕ
  k = 512 * t + i

  abbrev p : ℕ
  p = P.pre t * 512 + i

  abbrev q : Place
  q = place_at (p * span l) l

  -- the cursors, with that of `t` moved by one
  abbrev c⁺ : ℕ → ℕ
  c⁺ = put c t (suc i)

  halt : {n : ℕ} {q' : Place} → Fault K s l p k n q' → Halt K n q'
  halt f = record { s = s; P = P; c = c; all = F; t = t; l = l; i = i; at = at; cursor = ci; ahead = ah; fault = f }

  -- a source at the word is the entry itself
  here_ok : (s₂ : State) (P₂ : Map) (c₂ : ℕ → ℕ) → At s₂.reached P₂ t l i → P₂.pre t ≡ P.pre t → (a₀ : Act) → act_as K l p k ≡ a₀
      → (a : Act) (r : Src K s₂ P₂ c₂ a) → 512 * r.t + r.i ≡ k → a₀ ≡ a
  here_ok s₂ P₂ c₂ at₂ ep a₀ ea a r w =
      let et : r.t ≡ t = omega (arith, r.at.low, at.low) in
      let ei : r.i ≡ i = omega (arith, r.at.low, at.low) in
      sym ea ∙ (rw (et, ei, same_level at₂ r.at et, ep) at r.acted)

  -- the entry is done, and no other table is seen
  plain : (m₁ : Mem) (ms : List Moved) → ((x : Moved) → Memᴰ x s.moved → Memᴰ x ms) → (a₀ : Act) → act_as K l p k ≡ a₀
      → ((j : ℕ) → ¬ (j ≡ k) → m₁ j ≡ s.mem j) → DoneAt K (become s m₁ ms) P t l i
      → (Src K (become s m₁ ms) P c⁺ a₀ → (x : Moved) → Memᴰ x ms → Memᴰ x s.moved ⊎ Src K (become s m₁ ms) P c⁺ (move x))
      → New s a₀ → Ascending ms → length ms ≤ room → Post K s P (become s m₁ ms) c⁺
  plain m₁ ms sub a₀ ea off d moveds new tidy small =
      let s' : State = become s m₁ ms in
      let g : Grow s P s' P = grow_moved s s' P refl sub in
      let me : Src K s' P c⁺ a₀ = record { t = t; l = l; i = i; at = at; done = omega (arith, put_same c t (suc i) t refl); acted = ea } in
      record {
        P' = P;
        grow = g;
        all = record {
          inv = advance I at ci m₁ ms sub off d;
          hist = step_hist F s' P c⁺ g k a₀
              (λ t₁ e. on_eq t₁ t (λ w. rw (put_same c t (suc i) t₁ w, w) (omega arith)) (λ n. rw (put_other c t (suc i) t₁ n) (omega arith)))
              (λ t₁ j e hj hc. on_eq t₁ t
              (λ w. on_eq j i (λ v. inr (omega arith)) (λ n. inl (e, rw w (omega (arith, put_same c t (suc i) t₁ w)))))
              (λ n. inl (e, omega (arith, put_other c t (suc i) t₁ n))))
              (here_ok s' P c⁺ at refl a₀ ea)
              (λ t₁ e. inl e)
              (moveds me)
              new
              tidy
              small
              (sorted_plain c at ci ah hist.order);
        };
      }

  -- a leaf moves: its address is taken (b), the scratch is full (f), or it is taken out
  moves : (x : Moved) → act_as K l p k ≡ move x → (b f : Bool) → D.taken x.address s.moved ≡ b → leb room (length s.moved) ≡ f
      → Ok K s P c⁺ (unless b 14 q (unless f 15 q (go (without k x s))))
  unfolding unless
  moves x ea true f eb ef = let y = taken_true x.address s.moved eb in halt (taking ea y.1 y.2 refl)
  moves x ea false true eb ef = halt (filling ea (taken_false x.address s.moved eb) (leb-true room (length s.moved) ef) refl)
  moves x ea false false eb ef =
      let fresh = taken_false x.address s.moved eb in
      let A = remember_adds x s.moved hist.tidy fresh in
      plain (put s.mem k 0) (remember x s.moved) A.old (move x) ea (put_other s.mem k 0) (rw ea (cleared k x s, A.new))
      (λ me y my. ⊎_elim (λ e. inr (rw e me)) inl (A.only y my))
      (λ z ez y my e. let w : x.address ≡ z.address = cc in fresh y my (e ∙ sym w))
      A.tidy
      (omega (arith, A.more, leb-false room (length s.moved) ef))

  -- the table t', to which the entry leads, is marked, with its cursor at 0, and the entry is done
  module _ (v t' : ℕ) (ea : act_as K l p k ≡ follow t' v) (eb : s.reached t' ≡ false) where
    abbrev s₂ : State
    s₂ = become (seeing s t') (put s.mem k v) s.moved

    abbrev P₂ : Map
    P₂ = stand P t' l p

    abbrev c₂ : ℕ → ℕ
    c₂ = put (put c t' 0) t (suc i)

    other : ¬ (t' ≡ t)
    other = apart s t t' at.seen eb

    way : Way K t' l p
    way = later (rw at.height at (I.reached t at.seen)) at.low (said S l p (K.m₀ k) _ ea).0 refl

    grown : Grow s P s₂ P₂
    grown = grow_trans (mark_grow s P t' l p eb) (grow_moved (seeing s t') s₂ P₂ refl (λ x e. e))

    at₂ : At s₂.reached P₂ t l i
    at₂ = at_grow grown at

    pre_same : P₂.pre t ≡ P.pre t
    pre_same = grown.pre t at.seen

    cursor : c₂ t ≡ suc i
    cursor = put_same (put c t' 0) t (suc i) t refl

    cursor' : c₂ t' ≡ 0
    cursor' = put_other (put c t' 0) t (suc i) t' other ∙ put_same c t' 0 t' refl

    cursor_same : (t₁ : ℕ) → ¬ (t₁ ≡ t) → ¬ (t₁ ≡ t') → c₂ t₁ ≡ c t₁
    cursor_same t₁ n₁ n₂ = put_other (put c t' 0) t (suc i) t₁ n₁ ∙ put_other c t' 0 t₁ n₂

    seen₂ : Seen s₂ P₂ t' l p
    seen₂ = record { seen = marked k t' v s; height = put_same P.ht t' l t' refl; prefix = put_same P.pre t' p t' refl }

    inv₂ : Inv K s₂ P₂ c₂
    inv₂ =
        advance (mark I t' l p (said S l p (K.m₀ k) _ ea).2 eb way) at₂ (put_other c t' 0 t (λ w. other (sym w)) ∙ ci) (put s.mem k v) s.moved
        (λ x e. e)
        (put_other s.mem k v)
        (rw (pre_same, ea) (put_same s.mem k v k refl, seen₂))

    me : Src K s₂ P₂ c₂ (follow t' v)
    me = record { t = t; l = l; i = i; at = at₂; done = omega (arith, cursor); acted = rw pre_same ea }

    hist₂ : Hist K s₂ P₂ c₂
    hist₂ =
        step_hist F s₂ P₂ c₂ grown k (follow t' v)
        (λ t₁ e. on_eq t₁ t (λ w. rw (w, cursor) (omega arith)) (λ n. rw (cursor_same t₁ n (λ w. apart s t₁ t' e eb (sym w))) (omega arith)))
        (λ t₁ j e hj hc. on_eq t₁ t'
        (λ w. absurd (omega (arith, ap c₂ w, cursor')))
        (λ n₂. let e₁ = seen_back s t' t₁ true e n₂ in on_eq t₁ t
        (λ w. on_eq j i (λ z. inr (omega arith)) (λ z. inl (e₁, rw w (omega (arith, ap c₂ w, cursor)))))
        (λ n₁. inl (e₁, omega (arith, cursor_same t₁ n₁ n₂)))))
        (here_ok s₂ P₂ c₂ at₂ pre_same (follow t' v) ea)
        (λ t₁ e. on_eq t₁ t' (λ w. inr (v, rw w me)) (λ n₁. inl (seen_back s t' t₁ true e n₁)))
        (λ x mx. inl mx)
        (λ x e. impossible (cc))
        hist.tidy
        hist.small
        (sorted_follow c at ci ah t' eb hist.order)

    -- once t' is done its cursor is where that of a table not seen is
    cursors : put c₂ t' 512 ≡ c⁺
    cursors =
        ap (λ f. put f t' 512) (put_swap c t' 0 (suc i) t other)
        ∙ put_put c⁺ t' 0 512
        ∙ put_idle c⁺ t' 512 (put_other c t (suc i) t' other ∙ (I.aside t' eb).0)

    followed : (on : ℕ → ℕ → State → Step State) → Visits K l on → Ok K s P c⁺ (on t' p s₂)
    followed on ih =
        grow_ok K c⁺ grown (on t' p s₂)
        (rw cursors at (ih t' p s₂ P₂ c₂ (record { inv = inv₂; hist = hist₂ }) cursor'
        seen₂ (said S l p (K.m₀ k) _ ea).3 (ahead_under c at ci ah t' eb)))

  follows : (on : ℕ → ℕ → State → Step State) → Visits K l on → (v t' : ℕ) → act_as K l p k ≡ follow t' v → (b : Bool) → s.reached t' ≡ b
      → Ok K s P c⁺ (unless b 10 q (on t' p (pointed k t' v s)))
  unfolding unless
  follows on ih v t' ea true eb = halt (reaching ea eb refl)
  follows on ih v t' ea false eb = followed v t' ea eb on ih

  pub entry_ok : (on : ℕ → ℕ → State → Step State) → Visits K l on
      → Ok K s P (put c t (suc i))
      (perform K.room (λ t' s'. on t' (P.pre t * 512 + i) s') l ((P.pre t * 512 + i) * span l) (512 * t + i) s
      (K.act l (P.pre t * 512 + i) (s.mem (512 * t + i))))
  unfolding perform
  entry_ok on ih = rw r (turn (act_as K l p k) refl)
    where
      r : s.mem k ≡ K.m₀ k
      r = I.raw t i at.low (omega arith)

      turn : (a : Act) → act_as K l p k ≡ a → Ok K s P c⁺ (perform room (λ t' s'. on t' p s') l (p * span l) k s a)
      turn keep ea =
          plain s.mem s.moved (λ x e. e) keep ea (λ j n. refl) (rw ea r) (λ me x mx. inl mx) (λ x e. impossible (cc)) hist.tidy hist.small
      turn (move x) ea = moves x ea (D.taken x.address s.moved) (leb room (length s.moved)) refl refl
      turn (follow t' v) ea = follows on ih v t' ea (s.reached t') refl
      turn (refuse n q) ea = halt (refusing ea)
