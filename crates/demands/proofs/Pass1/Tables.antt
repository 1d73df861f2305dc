-- Pass 1, all the tables: the entries of a table (loop_ok), a table and those below it (visit_ok), and from the root on (visited): how pass 1
-- stands at its end, or where it stops (pass1_halts). Builds on Entry. Assumes nothing.
use Prim.Native.Nat.{ℕ, zero, suc, ◌+◌, ◌*◌, ◌<◌}
use mathlib.Core.Path.{◌≡◌, refl, sym, ◌∙◌}
use mathlib.Core.List.Memᴰ
use mathlib.Core.List.{[]}
use mathlib.Core.Bool.{true, false}
use mathlib.Core.Logic.{inl}
use native.Mathlib.Omega.{arith}
use Rattle.definitions.specs.Words.{put}
use Rattle.definitions.specs.Geometry.{span}
use Rattle.definitions.specs.Step.{Step, go, stop, times}
use Rattle.definitions.specs.Pass1.{State}
use Rattle.definitions.specs.Demand.{first}
use Rattle.definitions.proofs.Splits.{on_eq, impossible}
use Rattle.definitions.proofs.Puts.{put_same, put_other, put_idle, put_put}
use Rattle.demands.proofs.Shared.Walks.{Map, stand}
use Rattle.demands.proofs.Pass1.Visit.{entry, visit}
use Rattle.demands.proofs.Pass1.Passing.{Passing, Sound, Seen, started, pass1}
use Rattle.demands.proofs.Pass1.Cursor.{Ahead, ahead_on}
use Rattle.demands.proofs.Pass1.Invariant.{Inv, seen_at, seen_grow, grow_moved, mark}
use Rattle.demands.proofs.Pass1.Sources.{Hist, All}
use Rattle.demands.proofs.Pass1.Steps.{Halt, Ok, next_ok, Visits}
use Rattle.demands.proofs.Pass1.Entry.{entry_ok}

module _ {K : Passing} (S : Sound K) where
  open K use {paging as W, act, room, m₀}
  open W use {H, root}

  -- the entries from `i` on of the table `t`
  loop_ok : (l t p : ℕ) (on : ℕ → ℕ → State → Step State) → Visits K l on → (n i : ℕ) → i + n ≡ 512 → (s : State) (P : Map) (c : ℕ → ℕ)
      → All K s P (put c t i) → Seen s P t (suc l) p → Ahead s.reached P (put c t i) t (suc p * span (suc l))
      → Ok K s P (put c t 512) (times n (λ i s. entry act room on l t p i s) i s)
  unfolding times
  loop_ok l t p on ih zero i e s P c F z ah =
      let d : i ≡ 512 = omega arith in record { P' = P; grow = grow_moved s s P refl (λ x e. e); all = rw d at F }
  loop_ok l t p on ih (suc n) i e s P c F z ah =
      next_ok K s P (put c t (suc i)) (put c t 512) (entry act room on l t p i s) (λ s'. times n (λ i s. entry act room on l t p i s) (suc i) s')
      (rw (put_put c t i (suc i), z.prefix) at
      (entry_ok S F (seen_at z (omega arith)) (put_same c t i t refl) (rw z.prefix ah) on ih))
      (λ s₁ P₁ g J. loop_ok l t p on ih n (suc i) (omega arith) s₁ P₁ c J (seen_grow g z)
      (ahead_on s.reached s₁.reached P P₁ (put c t i) (put c t (suc i)) t (suc p * span (suc l)) (λ t₁ w. (F.inv.aside t₁ w).0) g.ht g.pre
      (λ t₁ w. put_other c t (suc i) t₁ w ∙ sym (put_other c t i t₁ w)) ah))

  visit_ok : (h : ℕ) → Visits K h (visit act room h)
  unfolding visit
  visit_ok zero t p s P c F ct z pos ah = absurd (omega arith)
  visit_ok (suc l) t p s P c F ct z pos ah =
      let idle = put_idle c t 0 ct in loop_ok l t p (visit act room l) (visit_ok l) 512 0 refl s P c (rw idle F) z (rw idle ah)

  -- ---- the start: only the root is seen, in its place, and nothing is done

  P∅ : Map
  P∅ = record { ht = λ t. 0; pre = λ t. 0 }

  P₀ : Map
  P₀ = stand P∅ root H 0

  -- the cursors: that of the root at 0, the others out of the way
  abbrev c₀ : ℕ → ℕ
  c₀ = put (λ t. 512) root 0

  never : false ≡ true → ⊥
  never e = impossible (cc)

  seen_first : (t : ℕ) → (started K).reached t ≡ true → t ≡ root
  seen_first t st = on_eq t root (λ e. e) (λ n. absurd (never (sym (put_other (λ t. false) root true t n) ∙ st)))

  none_done : (t i : ℕ) → (started K).reached t ≡ true → ¬ (i < c₀ t)
  none_done t i st h = omega (arith, put_same {A = ℕ} (λ t. 512) root 0 t (seen_first t st))

  top₀ : Seen (started K) P₀ root H 0
  unfolding P₀ P∅
  top₀ =
      record {
        seen = put_same (λ t. false) root true root refl;
        height = put_same (λ t. 0) root H root refl;
        prefix = put_same (λ t. 0) root 0 root refl;
      }

  inv₀ : Inv K (started K) P₀ c₀
  unfolding P₀ P∅
  inv₀ = mark I∅ root H 0 S.root_low refl (first refl refl refl)
    where
      I∅ : Inv K (record { mem = m₀; reached = λ t. false; moved = [] }) P∅ (λ t. 512)
      I∅ =
          record {
            done = λ t l i a. absurd (never a.seen);
            raw = λ t i hi hc. refl;
            unseen = λ t i e hi. refl;
            aside = λ t e. (refl, refl);
            low = λ t e. absurd (never e);
            reached = λ t e. absurd (never e);
          }

  hist₀ : Hist K (started K) P₀ c₀
  hist₀ =
      record {
        parent = λ t st. inl (seen_first t st);
        source = λ x e. absurd (Memᴰ.not-nil e);
        uniq = λ x y a b e. absurd (none_done a.t a.i a.at.seen a.done);
        tidy = tt;
        small = omega arith;
        top = top₀;
        order = λ t l i t₁ l₁ i₁ a d. absurd (none_done t i a.seen d);
      }

  visited : Ok K (started K) P₀ (λ t. 512) (pass1 K)
  unfolding pass1
  visited =
      rw cs at (visit_ok H root 0 (started K) P₀ c₀ (record { inv = inv₀; hist = hist₀ }) (put_same {A = ℕ} (λ t. 512) root 0 root refl) top₀
      S.lawful.pos (λ t l i n a. absurd (n (seen_first t a.seen))))
    where
      cs : put c₀ root 512 ≡ λ t. 512
      cs = put_put (λ t. 512) root 0 512 ∙ put_idle (λ t. 512) root 512 refl

-- how pass 1 stands at its end, with all done, or where it stops
abbrev pub Halted : Passing → Step State → Type 0
Halted K (go s) = (P : Map) × All K s P (λ t. 512)
Halted K (stop n q) = Halt K n q

pub pass1_halts : {K : Passing} → Sound K → Halted K (pass1 K)
pass1_halts {K} S = turn (pass1 K) (visited S)
  where
    turn : (r : Step State) → Ok K (started K) (P₀ S) (λ t. 512) r → Halted K r
    turn (go s) o = (o.P', o.all)
    turn (stop n q) o = o
