-- Pass 1, walk order: where it stops is the first entry at which something is wrong (first_halt), and where it goes through nothing is wrong
-- (none_wrong). All that comes before the entry at which it stops is done, and at what is done nothing is wrong (fine). Builds on Reached and
-- Steps. Assumes nothing.
use Prim.Native.Nat.{ℕ, suc, ◌+◌, ◌*◌, ◌<◌, ◌≤◌}
use mathlib.Core.Path.{◌≡◌, refl, sym, ◌∙◌, ap}
use mathlib.Core.List.Memᴰ
use mathlib.Core.List.{◌∷◌, Memᴰ}
use mathlib.Core.Logic.{⊎_elim}
use native.Mathlib.Decide.{dec_le}
use native.Mathlib.Omega.{arith}
use Rattle.definitions.specs.Geometry.{span}
use Rattle.definitions.specs.Pass1.{Act, move, follow, refuse, State}
use Rattle.definitions.specs.Demand.{first, later, Met as MetFrom, part_of, place_of, word_of}
use Rattle.definitions.specs.Order as O
use Rattle.definitions.specs.Order.{Earlier, refused, to_root, to_same, taken, full}
use Rattle.definitions.specs.declared.Moved.{Moved}
use Rattle.definitions.specs.declared.Place.{Place}
use Rattle.definitions.proofs.Splits.{on_eq}
use Rattle.definitions.proofs.Leaves.{ascending_distinct}
use Rattle.definitions.proofs.Order.{earlier_trans, earlier_other, entry_at, earlier_under, from_mono, table_end, entry_end, wrong_full}
use Rattle.demands.proofs.Shared.Lists.{within_length}
use Rattle.demands.proofs.Shared.Walks.{Map}
use Rattle.demands.proofs.Pass1.Passing.{Passing, act_as, Sound, Seen, Way}
use Rattle.demands.proofs.Pass1.Ways.{way_low}
use Rattle.demands.proofs.Pass1.Cursor.{At, same_level}
use Rattle.demands.proofs.Pass1.Invariant.{Done, seen_at}
use Rattle.demands.proofs.Pass1.Sources.{Src, led, All}
use Rattle.demands.proofs.Pass1.Steps.{Fault, refusing, reaching, taking, filling, Halt}
use Rattle.demands.proofs.Pass1.Reached.{way_seen}

-- ---- the words of walk order
module _ (K : Passing) where
  open K use {paging as W, old, act, room, m₀}
  open W use {H, root}

  abbrev pub Met : Type 0
  Met = MetFrom old m₀ H root

  abbrev pub Before : Met → Met → Type 0
  Before b e = Earlier (place_of b) (place_of e)

  -- what is done at it
  abbrev pub does : Met → Act
  does e = act_as K e.l (part_of e) (word_of e)

  abbrev pub Wrong : Met → ℕ → Place → Type 0
  Wrong = O.Wrong old m₀ H root act room

  abbrev pub First : ℕ → Place → Type 0
  First = O.First old m₀ H root act room

-- ---- a state in which all of some entries are done, with each entry those before it
module _ {K : Passing} {s : State} {P : Map} {c : ℕ → ℕ} (F : All K s P c)
    (Q : Met K → Type 0) (before : (b e : Met K) → Before K b e → Q e → Q b)
    (met : (e : Met K) → Q e → Seen s P e.t (suc e.l) e.p × (e.i < c e.t)) where
  source : (e : Met K) → Q e → (a : Act) → does K e ≡ a → Src K s P c a
  source e q a w =
      let m = met e q in
      record { t = e.t; l = e.l; i = e.i; at = seen_at m.0 e.low; done = m.1; acted = rw m.0.prefix w }

  done : (e : Met K) → Q e → (a : Act) → does K e ≡ a → Done s P e.l (part_of e) a (K.m₀ (512 * e.t + e.i)) (s.mem (512 * e.t + e.i))
  unfolding source
  done e q a w = let r = source e q a w in rw ((met e q).0.prefix, w) at (F.inv.done e.t e.l e.i r.at r.done)

  listed : (e : Met K) → Q e → (x : Moved) → does K e ≡ move x → Memᴰ x s.moved
  listed e q x w = (done e q (move x) w).1

  -- two of them that are done at one word are one
  one : (b e : Met K) → Q b → Q e → 512 * b.t + b.i ≡ 512 * e.t + e.i → (b.l ≡ e.l) × (part_of b ≡ part_of e)
  one b e qb qe w =
      let mb = met b qb in
      let me = met e qe in
      let et : b.t ≡ e.t = omega (arith, b.low, e.low) in
      let ei : b.i ≡ e.i = omega (arith, b.low, e.low) in
      let el : suc b.l ≡ suc e.l = sym mb.0.height ∙ ap P.ht et ∙ me.0.height in
      let ep : b.p ≡ e.p = sym mb.0.prefix ∙ ap P.pre et ∙ me.0.prefix in
      (omega arith, omega arith)

  same_place : (b e : Met K) → b.l ≡ e.l → part_of b ≡ part_of e → ¬ Before K b e
  same_place b e el ep = earlier_other (place_of b) (place_of e) el (rw (el, ep) refl)

  fine : (e : Met K) → Q e → (n : ℕ) (q : Place) → ¬ Wrong K e n q
  unfolding source
  fine e qe n q (refused w) = done e qe (refuse n q) w
  fine e qe n q (to_root {v} w z) = omega (arith, (done e qe (follow K.paging.root v) w).1.height, F.hist.top.height, way_low K e.way)
  fine e qe n q (to_same {t} {v} {v₁} w b r wb z) =
      let de = done e qe (follow t v) w in
      let db = done b (before b e r qe) (follow t v₁) wb in
      same_place b e (sym db.1.height ∙ de.1.height) (sym db.1.prefix ∙ de.1.prefix) r
  fine e qe n q (taken {x} {y} w b r wb ea z) =
      let qb = before b e r qe in
      let o = one b e qb qe (F.hist.uniq y x (source b qb (move y) wb) (source e qe (move x) w) ea) in
      same_place b e o.0 o.1 r
  fine e qe n q (full {x} w free xs d from h z) =
      let g = within_length (x ∷ xs) s.moved ((λ i. let b = from x i in free b.0 x b.1 b.2 refl), d)
      (λ y i. ⊎_elim (λ v. rw v (listed e qe x w)) (λ v. let b = from y v in listed b.0 (before b.0 e b.1 qe) y b.2)
      (Memᴰ.cases_cons i)) in
      omega (arith, F.hist.small)

-- ---- where pass 1 stops
module _ {K : Passing} (S : Sound K) (n : ℕ) (q : Place) (h : Halt K n q) where
  open K use {paging as W, old, act, room, m₀}
  open W use {H, root}
  open h use {s, P, c, all, t, l, i, cursor, ahead, fault}

  here : Met K
  here = record { t = t; l = l; p = P.pre t; i = i; low = h.at.low; way = rw h.at.height at (all.inv.reached t h.at.seen) }

  abbrev halt : Place
  halt = entry_at l (P.pre t * 512 + i)

  -- what is not done does not come before
  not_before : (t₁ l₁ i₁ : ℕ) → At s.reached P t₁ l₁ i₁ → c t₁ ≤ i₁ → ¬ Earlier (entry_at l₁ (P.pre t₁ * 512 + i₁)) halt
  not_before t₁ l₁ i₁ a d =
      on_eq t₁ t
      (λ w.
      let m : (P.pre t * 512 + i) * span l ≤ (P.pre t * 512 + i₁) * span l = from_mono l (P.pre t) i i₁ (omega (arith, ap c w, cursor)) in
      let el : l₁ ≡ l = same_level h.at a w in
      let m₁ : (P.pre t * 512 + i) * span l ≤ (P.pre t₁ * 512 + i₁) * span l₁ = rw (w, el) m in
      ⊎_elim (λ e. omega arith) (λ e. omega arith))
      (λ n. let b = ahead t₁ l₁ i₁ n a d in
      let m : (P.pre t * 512 + i) * span l < (P.pre t₁ * 512 + i₁) * span l₁ =
      omega (arith, table_end l (P.pre t) i h.at.low, entry_end l (P.pre t * 512 + i)) in
      ⊎_elim (λ e. omega arith) (λ e. omega arith))

  below_cursor : (t₁ l₁ i₁ : ℕ) → At s.reached P t₁ l₁ i₁ → Earlier (entry_at l₁ (P.pre t₁ * 512 + i₁)) halt → i₁ < c t₁
  below_cursor t₁ l₁ i₁ a e = elim (dec_le (c t₁) i₁) [ yes d ↦ absurd (not_before t₁ l₁ i₁ a d e) | no n ↦ omega arith ]

  -- a table at which an entry comes before was seen, in its place
  way_before : {t₁ h₁ p₁ : ℕ} → Way K t₁ h₁ p₁ → (l₁ i₁ : ℕ) → h₁ ≡ suc l₁ → Earlier (entry_at l₁ (p₁ * 512 + i₁)) halt → Seen s P t₁ h₁ p₁
  way_before (first et eh ep) l₁ i₁ el e = rw (et, eh, ep) all.hist.top
  way_before (later {t = t₁} {l = l₁} {p = p₁} {i = i₁} {t'} {p'} w hi eo ep) l₂ i₂ el e =
      let k₁ : ℕ = 512 * t₁ + i₁ in
      let up : Earlier (entry_at l₁ p') (entry_at l₂ (p' * 512 + i₂)) = rw el (earlier_under l₂ p' i₂) in
      let on : Earlier (entry_at l₁ (p₁ * 512 + i₁)) halt = rw ep at (earlier_trans (entry_at l₁ p') (entry_at l₂ (p' * 512 + i₂)) halt up e) in
      let c₁ = way_before w l₁ i₁ refl on in
      let a₁ = seen_at c₁ hi in
      let d = all.inv.done t₁ l₁ i₁ a₁ (below_cursor t₁ l₁ i₁ a₁ (rw c₁.prefix on)) in
      rw ep (led S s P l₁ (p₁ * 512 + i₁) (m₀ k₁) (s.mem k₁) t' eo _ refl (rw c₁.prefix at d))

  -- every entry that comes before is done
  met_before : (e : Met K) → Before K e here → Seen s P e.t (suc e.l) e.p × (e.i < c e.t)
  unfolding here
  met_before e b =
      let m = way_before e.way e.l e.i refl b in
      (m, below_cursor e.t e.l e.i (seen_at m e.low) (rw m.prefix b))

  before_trans : (a b : Met K) → Before K a b → Before K b here → Before K a here
  before_trans a b = earlier_trans (place_of a) (place_of b) (place_of here)

  fine_before : (e : Met K) → Before K e here → (n' : ℕ) (q' : Place) → ¬ Wrong K e n' q'
  fine_before = fine all (λ e. Before K e here) before_trans met_before

  listed_before : (e : Met K) → Before K e here → (x : Moved) → does K e ≡ move x → Memᴰ x s.moved
  listed_before = listed all (λ e. Before K e here) before_trans met_before

  -- what was done comes before
  abbrev met_of : (a : Act) → Src K s P c a → Met K
  met_of a r =
      record { t = r.t; l = r.l; p = P.pre r.t; i = r.i; low = r.at.low; way = rw r.at.height at (all.inv.reached r.t r.at.seen) }

  from_before : (a : Act) (r : Src K s P c a) → Before K (met_of a r) here
  unfolding here
  from_before a r = all.hist.order r.t r.l r.i t l i r.at r.done h.at (omega (arith, cursor))

  moved_before : (y : Moved) → Memᴰ y s.moved → O.MovesBefore old m₀ H root act here y
  moved_before y e = let r = all.hist.source y e in (met_of (move y) r, from_before (move y) r, r.acted)

  -- and what is wrong at the entry is wrong by what comes before
  wrong_here : {n : ℕ} {q : Place} → Fault K s l (P.pre t * 512 + i) (512 * t + i) n q → Wrong K here n q
  unfolding here
  wrong_here (refusing w) = refused w
  wrong_here (reaching {t = t'} {v} w e z) =
      ⊎_elim
      (λ d. to_root (rw d at w) z)
      (λ r. to_same w (met_of (follow t' r.0) r.1) (from_before (follow t' r.0) r.1) r.1.acted z)
      (all.hist.parent t' e)
  wrong_here (taking {x} {y} w my e z) = let b = moved_before y my in taken w b.0 b.1 b.2 e z
  wrong_here (filling {x} w free hl z) =
      rw z
      (wrong_full old m₀ H root act room here x w (λ b y r wb. free y (listed_before b r y wb)) s.moved (ascending_distinct s.moved all.hist.tidy)
      moved_before (omega (arith, all.hist.small)))

  pub first_halt : First K n q
  first_halt =
      record {
        entry = here;
        wrong = wrong_here fault;
        none = fine_before;
        fits = λ xs d f. omega (arith, all.hist.small, within_length xs s.moved d (λ y e. let b = f y e in listed_before b.0 b.1 y b.2));
      }

-- ---- where pass 1 goes through, nothing is wrong anywhere
pub none_wrong : {K : Passing} → Sound K → {s : State} {P : Map} → All K s P (λ t. 512) → (n : ℕ) (q : Place) → ¬ First K n q
none_wrong S F n q f =
    fine F (λ e. Unit {0}) (λ b e r z. tt) (λ e z. (way_seen S F e.way (omega arith), e.low)) f.entry tt n q f.wrong
