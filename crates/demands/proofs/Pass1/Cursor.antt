-- Where pass 1 stands: every table that is seen is done below its cursor. What is done is earlier in walk order than what is
-- not (Sorted), and in the tables above the present one only what lies beyond it is not done (Ahead). Assumes nothing.
use Prim.Native.Nat.{ℕ, suc, ◌+◌, ◌*◌, ◌<◌, ◌≤◌}
use mathlib.Core.Path.{◌≡◌, sym, ◌∙◌, ap}
use mathlib.Core.Bool.{true, false}
use mathlib.Core.Logic.{inl}
use native.Mathlib.Omega.{arith}
use Rattle.definitions.specs.Words.{Tables, put}
use Rattle.definitions.specs.Geometry.{span}
use Rattle.definitions.specs.Order.{Earlier}
use Rattle.definitions.proofs.Splits.{on_bool, on_eq, impossible}
use Rattle.definitions.proofs.Puts.{put_same, put_other}
use Rattle.definitions.proofs.Order.{earlier_trans, entry_at, earlier_under, earlier_next, from_mono, table_end, entry_end}
use Rattle.demands.proofs.Shared.Walks.{Map, stand}

-- entry i, of level l, of the table t, which is seen
pub record At (R : Tables) (P : Map) (t l i : ℕ) : Type 0 where
  pub seen : R t ≡ true
  pub height : P.ht t ≡ suc l
  pub low : i < 512

abbrev pub Sorted : Tables → Map → (ℕ → ℕ) → Type 0
Sorted R P c =
    (t l i t₁ l₁ i₁ : ℕ) → At R P t l i → i < c t → At R P t₁ l₁ i₁ → c t₁ ≤ i₁ → Earlier (entry_at l (P.pre t * 512 + i)) (entry_at l₁ (P.pre t₁ * 512 + i₁))

-- what is not done of other tables than t maps addresses from b on
abbrev pub Ahead : Tables → Map → (ℕ → ℕ) → (t b : ℕ) → Type 0
Ahead R P c t b = (t₁ l₁ i₁ : ℕ) → ¬ (t₁ ≡ t) → At R P t₁ l₁ i₁ → c t₁ ≤ i₁ → b ≤ (P.pre t₁ * 512 + i₁) * span l₁

pub same_level : {R : Tables} {P : Map} {t l i t₁ l₁ i₁ : ℕ} → At R P t l i → At R P t₁ l₁ i₁ → t₁ ≡ t → l₁ ≡ l
same_level {P = P} {l = l} {l₁ = l₁} a a₁ w = let h : suc l₁ ≡ suc l = sym a₁.height ∙ ap P.ht w ∙ a.height in omega arith

-- more is seen, and the cursors of other tables than t stay
pub ahead_on : (R R₁ : Tables) (P P₁ : Map) (c c₁ : ℕ → ℕ) (t b : ℕ) → ((t₁ : ℕ) → R t₁ ≡ false → c t₁ ≡ 512)
    → ((t₁ : ℕ) → R t₁ ≡ true → P₁.ht t₁ ≡ P.ht t₁) → ((t₁ : ℕ) → R t₁ ≡ true → P₁.pre t₁ ≡ P.pre t₁)
    → ((t₁ : ℕ) → ¬ (t₁ ≡ t) → c₁ t₁ ≡ c t₁) → Ahead R P c t b → Ahead R₁ P₁ c₁ t b
ahead_on R R₁ P P₁ c c₁ t b aside ht pre same A t₁ l₁ i₁ n a d =
    on_bool (R t₁)
    (λ e. absurd (omega (arith, aside t₁ e, same t₁ n, a.low)))
    (λ e. rw (pre t₁ e)
    (A t₁ l₁ i₁ n (record { seen = e; height = sym (ht t₁ e) ∙ a.height; low = a.low }) (omega (arith, same t₁ n))))

module _ {R : Tables} {P : Map} (c : ℕ → ℕ) {t l i : ℕ} (a : At R P t l i) (ci : c t ≡ i) where
  abbrev p : ℕ
  p = P.pre t * 512 + i

  -- what is not done of other tables comes after the entry
  abbrev Next : Type 0
  Next = (t₁ l₁ i₁ : ℕ) → ¬ (t₁ ≡ t) → At R P t₁ l₁ i₁ → c t₁ ≤ i₁ → Earlier (entry_at l p) (entry_at l₁ (P.pre t₁ * 512 + i₁))

  -- the entry at the cursor is done, which is the next in walk order
  sorted_on : Next → Sorted R P c → Sorted R P (put c t (suc i))
  sorted_on next S t₁ l₁ i₁ t₂ l₂ i₂ a₁ d₁ a₂ d₂ =
      let old : c t₂ ≤ i₂ = on_eq t₂ t
      (λ w. omega (arith, put_same c t (suc i) t₂ w, ap c w))
      (λ n. omega (arith, put_other c t (suc i) t₂ n)) in
      let here : Earlier (entry_at l p) (entry_at l₂ (P.pre t₂ * 512 + i₂)) = on_eq t₂ t
      (λ w. rw (w, same_level a a₂ w) (earlier_next l (P.pre t) i i₂ (omega (arith, put_same c t (suc i) t₂ w))))
      (λ n. next t₂ l₂ i₂ n a₂ old) in
      on_eq t₁ t
      (λ w. on_eq i₁ i
      (λ v. rw (w, v, same_level a a₁ w) here)
      (λ n. S t₁ l₁ i₁ t₂ l₂ i₂ a₁ (omega (arith, put_same c t (suc i) t₁ w, ap c w)) a₂ old))
      (λ n. S t₁ l₁ i₁ t₂ l₂ i₂ a₁ (omega (arith, put_other c t (suc i) t₁ n)) a₂ old)

  module _ (A : Ahead R P c t (suc (P.pre t) * span (suc l))) where
    next_ahead : Next
    next_ahead t₁ l₁ i₁ n a₁ d = inl (omega (arith, A t₁ l₁ i₁ n a₁ d, table_end l (P.pre t) i a.low, entry_end l p))

    pub sorted_plain : Sorted R P c → Sorted R P (put c t (suc i))
    sorted_plain = sorted_on next_ahead

    -- the entry leads to the table t', which is new
    module _ (t' : ℕ) (new : R t' ≡ false) where
      abbrev R' : Tables
      R' = put R t' true

      abbrev P' : Map
      P' = stand P t' l p

      back : (t₁ l₁ i₁ : ℕ) → ¬ (t₁ ≡ t') → At R' P' t₁ l₁ i₁ → At R P t₁ l₁ i₁
      back t₁ l₁ i₁ n a₁ =
          record {
            seen = sym (put_other R t' true t₁ n) ∙ a₁.seen;
            height = sym (put_other P.ht t' l t₁ n) ∙ a₁.height;
            low = a₁.low;
          }

      other : ¬ (t ≡ t')
      other w = impossible (cc (ap R w, a.seen))

      level_under : (t₁ l₁ i₁ : ℕ) → t₁ ≡ t' → At R' P' t₁ l₁ i₁ → l ≡ suc l₁
      level_under t₁ l₁ i₁ w a₁ = sym (put_same P.ht t' l t₁ w) ∙ a₁.height

      -- what is under the entry comes after it
      under : (t₁ l₁ i₁ : ℕ) → t₁ ≡ t' → At R' P' t₁ l₁ i₁ → Earlier (entry_at l p) (entry_at l₁ (P'.pre t₁ * 512 + i₁))
      under t₁ l₁ i₁ w a₁ = rw (put_same P.pre t' p t₁ w, level_under t₁ l₁ i₁ w a₁) (earlier_under l₁ p i₁)

      sorted_mark : Sorted R P c → Sorted R' P' (put c t' 0)
      sorted_mark S t₁ l₁ i₁ t₂ l₂ i₂ a₁ d₁ a₂ d₂ =
          on_eq t₁ t'
          (λ w. absurd (omega (arith, put_same c t' 0 t₁ w)))
          (λ n.
          let b₁ = back t₁ l₁ i₁ n a₁ in
          let e₁ : i₁ < c t₁ = omega (arith, put_other c t' 0 t₁ n) in
          let first = S t₁ l₁ i₁ t l i b₁ e₁ a (omega arith) in
          rw (put_other P.pre t' p t₁ n)
          (on_eq t₂ t'
          (λ w. earlier_trans (entry_at l₁ (P.pre t₁ * 512 + i₁)) (entry_at l p) (entry_at l₂ (P'.pre t₂ * 512 + i₂)) first (under t₂ l₂ i₂ w a₂))
          (λ n₂. rw (put_other P.pre t' p t₂ n₂)
          (S t₁ l₁ i₁ t₂ l₂ i₂ b₁ e₁ (back t₂ l₂ i₂ n₂ a₂) (omega (arith, put_other c t' 0 t₂ n₂))))))

      pub ahead_under : Ahead (put R t' true) (stand P t' l (P.pre t * 512 + i)) (put (put c t' 0) t (suc i)) t' (suc (P.pre t * 512 + i) * span l)
      ahead_under t₁ l₁ i₁ n a₁ d =
          rw (put_other P.pre t' p t₁ n)
          (on_eq t₁ t
          (λ w. rw (w, same_level a (back t₁ l₁ i₁ n a₁) w)
          (omega (arith, from_mono l (P.pre t) (suc i) i₁ (omega (arith, put_same (put c t' 0) t (suc i) t₁ w)))))
          (λ n₁.
          let d₁ : c t₁ ≤ i₁ = omega (arith, put_other (put c t' 0) t (suc i) t₁ n₁, put_other c t' 0 t₁ n) in
          omega (arith, table_end l (P.pre t) i a.low, A t₁ l₁ i₁ n₁ (back t₁ l₁ i₁ n a₁) d₁)))

-- the entry is done, and what is under it is not
pub sorted_follow : {R : Tables} {P : Map} (c : ℕ → ℕ) {t l i : ℕ} (a : At R P t l i) → c t ≡ i → Ahead R P c t (suc (P.pre t) * span (suc l))
    → (t' : ℕ) → R t' ≡ false → Sorted R P c → Sorted (put R t' true) (stand P t' l (P.pre t * 512 + i)) (put (put c t' 0) t (suc i))
sorted_follow {R} {P} c {t} {l} {i} a ci A t' new S =
    let n = other c a ci A t' new in
    let pre_other : (t₁ : ℕ) → ¬ (t₁ ≡ t') → (stand P t' l (P.pre t * 512 + i)).pre t₁ ≡ P.pre t₁ = put_other P.pre t' (P.pre t * 512 + i) in
    let a' : At (put R t' true) (stand P t' l (P.pre t * 512 + i)) t l i =
    record { seen = put_other R t' true t n ∙ a.seen; height = put_other P.ht t' l t n ∙ a.height; low = a.low } in
    sorted_on (put c t' 0) a' (put_other c t' 0 t n ∙ ci)
    (λ t₁ l₁ i₁ n₁ a₁ d.
    rw (pre_other t n)
    (on_eq t₁ t'
    (λ w. under c a ci A t' new t₁ l₁ i₁ w a₁)
    (λ n₂. rw (pre_other t₁ n₂)
    (next_ahead c a ci A t₁ l₁ i₁ n₁ (back c a ci A t' new t₁ l₁ i₁ n₂ a₁) (omega (arith, put_other c t' 0 t₁ n₂))))))
    (sorted_mark c a ci A t' new S)
