-- Pass 1, its theorem (pass1_ok): what it leaves of every walk, table and entry, with no table shared, or the reason why it refused, with
-- number and place. Every walk goes through the same tables before and after (walked). Builds on Reached and Tables. Assumes nothing.
use Prim.Native.Nat.{ℕ, zero, suc, ◌+◌, ◌*◌, ◌/◌, ◌%◌, ◌<◌, ◌≤◌}
use mathlib.Core.Path.{◌≡◌, refl, sym, ◌∙◌, ap}
use Rattle.std.specs.Prelude.{None, Some}
use mathlib.Core.List.Memᴰ
use mathlib.Core.List.{◌∷◌, Memᴰ}
use mathlib.Core.Bool.{true}
use mathlib.Core.Logic.{◌⊎◌, inl, inr, ⊎_elim}
use native.Mathlib.Omega.{arith}
use Rattle.definitions.specs.Geometry.{part}
use Rattle.definitions.specs.Step.{Step, go, stop}
use Rattle.definitions.specs.Ranges.{Kind}
use Rattle.definitions.specs.Pass1.{Act, keep, move, follow, refuse, State}
use Rattle.definitions.specs.Walk.{spot, table_of, onward, below, stop_of, reads}
use Rattle.definitions.proofs.Splits.{on_bool, impossible}
use Rattle.definitions.proofs.Geometry.{part_step}
use Rattle.demands.proofs.Shared.Walks.{Map, word, Down}
use Rattle.demands.proofs.Shared.Paging.{kind_in}
use Rattle.demands.proofs.Pass1.Passing.{Passing, Sound, Seen, said, StopAt, Fixed, Passed, pass1}
use Rattle.demands.proofs.Pass1.Ways.{moved_at}
use Rattle.demands.proofs.Pass1.Invariant.{Done, Inv, seen_at}
use Rattle.demands.proofs.Pass1.Sources.{All, src_entry}
use Rattle.demands.proofs.Pass1.Steps.{why}
use Rattle.demands.proofs.Pass1.Tables.{Halted, pass1_halts}
use Rattle.demands.proofs.Pass1.Reached.{way_seen, entry_remains, seen_way, seen_read, spotless}

module _ {K : Passing} (S : Sound K) {s : State} {P : Map} (I : Inv K s P (λ t. 512)) where
  open K use {paging as W, old, act, used, m₀}
  open S.lawful use {zero_absent}

  abbrev kind : ℕ → ℕ → Kind
  kind = kind_in W

  -- the walk of `b` ends in the table `t` before and after, or goes on to the same table
  abbrev Halts : (l t b : ℕ) → Type 0
  Halts l t b = (below old l (m₀ (word t l b)) ≡ None) × (below kind l (s.mem (word t l b)) ≡ None) × StopAt K s (spot l (word t l b)) b

  record Leads (l t b : ℕ) : Type 0 where
    to : ℕ
    before : below old l (m₀ (word t l b)) ≡ Some to
    after : below kind l (s.mem (word t l b)) ≡ Some to
    seen : Seen s P to l (part l b)
    pos : 0 < l

  step : (l t b : ℕ) → Seen s P t (suc l) (part (suc l) b) → Halts l t b ⊎ Leads l t b
  unfolding table_of
  step l t b z =
      turn (act l (part l b) (m₀ (word t l b))) refl
      (rw pe at (I.done t l (part l b % 512) (seen_at z (omega arith)) (omega arith)))
    where
      pe : P.pre t * 512 + part l b % 512 ≡ part l b
      pe = omega (arith, part_step l b, z.prefix)

      turn : (a : Act) → act l (part l b) (m₀ (word t l b)) ≡ a → Done s P l (part l b) a (m₀ (word t l b)) (s.mem (word t l b)) → Halts l t b ⊎ Leads l t b
      turn keep ea d = let r = said S l _ _ _ ea in inl (r.0, rw d r.1, rw ea d)
      turn (move x) ea d = inl ((said S l _ _ _ ea).0, rw (d.0, zero_absent l) refl, rw ea d)
      turn (follow t' v) ea d =
          let r = said S l _ _ _ ea in inr (record { to = t'; before = r.0; after = rw d.0 r.1; seen = d.1; pos = r.3 })
      turn (refuse n q) ea d = absurd d

  walked : (h t b : ℕ) → Seen s P t h (part h b) → 0 < h → (stop_of kind h s.mem t b ≡ stop_of old h m₀ t b) × StopAt K s (stop_of old h m₀ t b) b
  unfolding stop_of onward
  walked zero t b z pos = absurd (omega arith)
  walked (suc l) t b z pos =
      ⊎_elim (λ c. rw (c.0, c.1) (refl, c.2)) (λ c. rw (c.before, c.after) (walked l c.to b c.seen c.pos)) (step l t b z)

  walked_reads : (h t b : ℕ) → Seen s P t h (part h b) → reads kind h s.mem t b ≡ reads old h m₀ t b
  unfolding reads onward
  walked_reads zero t b z = refl
  walked_reads (suc l) t b z =
      ⊎_elim
      (λ c. rw (c.0, c.1) refl)
      (λ c. rw (c.before, c.after) (ap (λ ts. t ∷ ts) (walked_reads l c.to b c.seen)))
      (step l t b z)

  -- the tables that a walk reads are reached
  walked_seen : (h t b : ℕ) → Seen s P t h (part h b) → (x : ℕ) → Memᴰ x (reads old h m₀ t b) → s.reached x ≡ true
  unfolding reads onward
  walked_seen zero t b z x m = absurd (Memᴰ.not-nil m)
  walked_seen (suc l) t b z x m =
      ⊎_elim (λ e. rw e z.seen)
      (λ m. ⊎_elim
      (λ c. absurd (Memᴰ.not-nil (rw c.0 at m)))
      (λ c. walked_seen l c.to b c.seen x (rw c.before at m))
      (step l t b z))
      (Memᴰ.cases_cons m)

  down : Down kind used P s.mem
  unfolding table_of
  down t l i t' ht hi hh e =
      on_bool (s.reached t)
      (λ st. absurd (omega (arith, (I.aside t st).1)))
      (λ st. turn (act l p (m₀ k)) refl (I.done t l i (record { seen = st; height = hh; low = hi }) hi))
    where
      k : ℕ
      k = 512 * t + i

      p : ℕ
      p = P.pre t * 512 + i

      turn : (a : Act) → act l p (m₀ k) ≡ a → Done s P l p a (m₀ k) (s.mem k) → (t' < used) × (P.ht t' ≡ l) × (P.pre t' ≡ p)
      turn keep ea d = impossible (cc (said S l p (m₀ k) _ ea).1)
      turn (move x) ea d = impossible (cc (d.0, zero_absent l))
      turn (follow t₂ v) ea d = let same : t₂ ≡ t' = cc (d.0, (said S l p (m₀ k) _ ea).1) in rw (← same) (I.low t₂ d.1.seen, d.1.height, d.1.prefix)
      turn (refuse n q) ea d = absurd d

  still_free : (k : ℕ) → 512 * used ≤ k → s.mem k ≡ 0
  still_free k h =
      on_bool (s.reached (k / 512))
      (λ st. let e : 512 * (k / 512) + k % 512 ≡ k = omega arith in (rw e at (I.unseen (k / 512) (k % 512) st (omega arith))) ∙ S.free k h)
      (λ st. absurd (omega (arith, I.low (k / 512) st)))

module _ {K : Passing} (S : Sound K) where
  open K.paging use {H, root}

  fixed : (s : State) (P : Map) → All K s P (λ t. 512) → Fixed K s
  fixed s P F =
      let top = F.hist.top in
      let on : (b : ℕ) → part H b ≡ 0 → Seen s P root H (part H b) = λ b r.
      record { seen = top.seen; height = top.height; prefix = top.prefix ∙ sym r } in
      record {
        good = record {
          P = P;
          on = λ b r. record { low = S.root_low; height = top.height; prefix = (on b r).prefix };
          down = down S F.inv;
          free = still_free S F.inv;
        };
        same = λ b r. (walked S F.inv H root b (on b r) S.lawful.pos).0;
        stop = λ b r. (walked S F.inv H root b (on b r) S.lawful.pos).1;
        tables = λ b r. walked_reads S F.inv H root b (on b r);
        sound = λ x mx. moved_at K S x (src_entry F.inv (move x) (F.hist.source x mx));
        tidy = F.hist.tidy;
        seen = λ b r. walked_seen S F.inv H root b (on b r);
        read = seen_read S F;
        way = seen_way S F;
        ways = way_seen S F;
        entries = entry_remains S F;
        unread = λ t e. ((F.inv.aside t e).1, λ i hi. F.inv.unseen t i e hi);
        clean = spotless S F;
      }

  ended : (r : Step State) → Halted K r → Passed K r
  ended (stop n q) h = why h
  ended (go s) h = fixed s h.0 h.1

  pub pass1_ok : Passed K (pass1 K)
  pass1_ok = ended (pass1 K) (pass1_halts S)
