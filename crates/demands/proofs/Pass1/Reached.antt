-- Pass 1, where all is done: every way leads to a table that is seen (way_seen), every entry on one is done (entry_done), some walk reads every
-- table that is seen (seen_read), and nothing is wrong (spotless). Builds on Sources and Ways. Assumes nothing.
use Prim.Native.Nat.{ℕ, suc, ◌+◌, ◌*◌, ◌-◌, ◌<◌}
use mathlib.Core.Path.{◌≡◌, refl, sym, ◌∙◌, ap}
use mathlib.Core.List.{Memᴰ}
use mathlib.Core.Bool.{true}
use mathlib.Core.Logic.{⊎_elim}
use native.Mathlib.Omega.{arith}
use Rattle.definitions.specs.Geometry.{span, part}
use Rattle.definitions.specs.Pass1.{Act, keep, move, follow, refuse, State}
use Rattle.definitions.specs.Walk.{reads}
use Rattle.definitions.specs.Demand.{first, later, remains, part_of, word_of}
use Rattle.definitions.specs.Conditions.{bad, again, twice, taken, crowded}
use Rattle.definitions.specs.declared.Place.{Place}
use Rattle.definitions.proofs.Geometry.{part_first}
use Rattle.demands.proofs.Shared.Lists.{within_length}
use Rattle.demands.proofs.Shared.Walks.{Map}
use Rattle.demands.proofs.Shared.Paging.{Addr}
use Rattle.demands.proofs.Pass1.Passing.{Passing, act_as, Sound, Seen, said, Way, Entry, Why}
use Rattle.demands.proofs.Pass1.Ways.{way_part, way_reads, reads_first, way_low, way_one}
use Rattle.demands.proofs.Pass1.Invariant.{Done, seen_at}
use Rattle.demands.proofs.Pass1.Sources.{Src, led, All, src_entry}

module _ {K : Passing} (S : Sound K) {s : State} {P : Map} (F : All K s P (λ t. 512)) where
  open K use {paging as W, old, act, m₀}
  open W use {H, root}
  open F use {inv as I, hist}

  done_of : (t l p i : ℕ) → Seen s P t (suc l) p → i < 512 → (a : Act) → act_as K l (p * 512 + i) (512 * t + i) ≡ a
      → Done s P l (p * 512 + i) a (m₀ (512 * t + i)) (s.mem (512 * t + i))
  done_of t l p i c hi a ea = rw (c.prefix, ea) at (I.done t l i (seen_at c hi) hi)

  pub way_seen : {t h p : ℕ} → Way K t h p → 0 < h → Seen s P t h p
  way_seen (first et eh ep) hp = rw (et, eh, ep) hist.top
  way_seen (later {t} {l} {p} {i} {t'} w hi eo ep) hp =
      rw ep (led S s P l (p * 512 + i) (m₀ (512 * t + i)) (s.mem (512 * t + i)) t' eo _ refl (done_of t l p i (way_seen w (omega arith)) hi _ refl))

  entry_done : (a : Act) (c : Entry K a) → let e = c.entry in Done s P e.l (part_of e) a (m₀ (word_of e)) (s.mem (word_of e))
  entry_done a c = let e = c.entry in done_of e.t e.l e.p e.i (way_seen e.way (omega arith)) e.low a c.acted

  entry_src : (a : Act) → Entry K a → Src K s P (λ t. 512) a
  entry_src a c =
      let e = c.entry in
      let seen = way_seen e.way (omega arith) in
      record { t = e.t; l = e.l; i = e.i; at = seen_at seen e.low; done = e.low; acted = rw seen.prefix c.acted }

  pub entry_remains : (t l p i : ℕ) → Way K t (suc l) p → i < 512
      → s.mem (512 * t + i) ≡ remains (K.act l (p * 512 + i) (K.m₀ (512 * t + i))) (K.m₀ (512 * t + i))
  unfolding remains
  entry_remains t l p i w hi = turn (act l (p * 512 + i) (m₀ (512 * t + i))) (done_of t l p i (way_seen w (omega arith)) hi _ refl)
    where
      turn : (a : Act) → Done s P l (p * 512 + i) a (m₀ (512 * t + i)) (s.mem (512 * t + i)) → s.mem (512 * t + i) ≡ remains a (m₀ (512 * t + i))
      turn keep d = d
      turn (move x) d = d.0
      turn (follow t' v) d = d.0
      turn (refuse n q) d = absurd d

  -- a table that is reached has a height, and some walk reads it
  tall : (t : ℕ) → s.reached t ≡ true → 0 < P.ht t
  tall t st =
      ⊎_elim
      (λ e. omega (arith, ap P.ht e, hist.top.height, S.lawful.pos))
      (λ r. let a = follow t r.0 in let e = src_entry I a r.1 in omega (arith, (entry_done a e).1.height, (said S e.entry.l _ _ a e.acted).3))
      (hist.parent t st)

  pub seen_way : (t : ℕ) → s.reached t ≡ true → (l : ℕ) × (p : ℕ) × Way K t (suc l) p
  seen_way t st = let e : P.ht t ≡ suc (P.ht t - 1) = omega (arith, tall t st) in (P.ht t - 1, P.pre t, rw e at (I.reached t st))

  pub seen_read : (t : ℕ) → s.reached t ≡ true
      → (b : ℕ) × Addr K.paging b × Memᴰ t (reads K.old K.paging.H K.m₀ K.paging.root b)
  seen_read t st =
      let b = P.pre t * span (P.ht t) in
      let e : part (P.ht t) b ≡ P.pre t = part_first (P.ht t) (P.pre t) in
      let w = I.reached t st in
      (b, way_part old m₀ H root w b e, way_reads K w b e t (reads_first K (P.ht t) t b (tall t st)))

  pub spotless : (n : ℕ) (q : Place) → ¬ Why K n q
  unfolding entry_src
  spotless n q (bad e) = entry_done (refuse n q) e
  spotless n q (again {v} e w) = omega (arith, way_low K e.entry.way, (entry_done (follow root v) e).1.height, hist.top.height)
  spotless n q (twice {t} {v} {v₁} c d ne w) =
      let a = c.entry in
      let b = d.entry in
      let da = entry_done (follow t v) c in
      let db = entry_done (follow t v₁) d in
      let el : suc a.l ≡ suc b.l = ap suc (sym da.1.height ∙ db.1.height) in
      let ep : part_of a ≡ part_of b = sym da.1.prefix ∙ db.1.prefix in
      let et : a.t ≡ b.t = way_one K a.way b.way el (omega (arith, a.low, b.low)) in
      ne (omega (arith, a.low, b.low))
  spotless n q (crowded a xs d from more w) = omega (arith, hist.small, within_length xs s.moved d (λ x e. (entry_done (move x) (from x e)).1))
  spotless n q (taken {x} {y} a b ne e w) = ne (hist.uniq x y (entry_src (move x) a) (entry_src (move y) b) (sym e))
