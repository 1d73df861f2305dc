-- Pass 1, the ways from the root to the tables, in the tables as they were: the walk of every address of a way's part goes it (way_walk),
-- a table stands in one place (way_one), and an entry that moves is where walks end (moved_at). Builds on Passing. Assumes nothing.
use Prim.Native.Nat.{ℕ, zero, suc, ◌%◌, ◌<◌, ◌≤◌}
use mathlib.Core.Path.{◌≡◌, refl, sym, ◌∙◌, ap}
use Rattle.std.specs.Prelude.{Some}
use mathlib.Core.List.{Memᴰ}
use native.Mathlib.Omega.{arith}
use Rattle.definitions.specs.Words.{Mem}
use Rattle.definitions.specs.Geometry.{part}
use Rattle.definitions.specs.Ranges.{Kind}
use Rattle.definitions.specs.Pass1.{move}
use Rattle.definitions.specs.Walk.{spot, onward, below, stop_of, reads}
use Rattle.definitions.specs.Demand as T
use Rattle.definitions.specs.Demand.{first, later, part_of, word_of, start_of}
use Rattle.definitions.specs.declared.Moved.{Moved}
use Rattle.definitions.proofs.Geometry.{part_step, part_first}
use Rattle.demands.proofs.Shared.Walks.{word, stop_cont, cont_none, cont_some}
use Rattle.demands.proofs.Pass1.Passing.{Passing, Sound, said, was, Goes, Way, Entry}

-- every address of a part that is reached is one that the root table maps
pub way_part : (read : ℕ → ℕ → Kind) (m : Mem) (h₀ t₀ : ℕ) {t h p : ℕ} → T.Way read m h₀ t₀ t h p → (b : ℕ) → part h b ≡ p → part h₀ b ≡ 0
way_part read m h₀ t₀ (first et eh ep) b e = rw (eh, ep) at e
way_part read m h₀ t₀ (later {l = l} w hi eo ep) b e = way_part read m h₀ t₀ w b (omega (arith, part_step l b))

module _ (K : Passing) where
  open K use {paging as W, old, m₀}
  open W use {H, root}

  -- every address of the part is looked up in the table
  way_walk : {t h p : ℕ} → Way K t h p → (b : ℕ) → part h b ≡ p → was K b ≡ stop_of old h m₀ t b
  way_walk (first et eh ep) b e = rw (et, eh) refl
  way_walk (later {t} {l} {p} {i} {t' = t'} w hi eo ep) b e =
      let z : part l b % 512 ≡ i = omega arith in
      way_walk w b (omega (arith, part_step l b)) ∙ stop_cont old l m₀ t b ∙ cont_some old m₀ (spot l (word t l b)) b t' (rw z eo)

  -- and reads it
  pub way_reads : {t h p : ℕ} → Way K t h p → (b : ℕ) → part h b ≡ p → (x : ℕ) → Memᴰ x (reads K.old h K.m₀ t b)
      → Memᴰ x (reads K.old K.paging.H K.m₀ K.paging.root b)
  unfolding reads onward
  way_reads (first et eh ep) b e x m = rw (← et, ← eh) m
  way_reads (later {t} {l} {p} {i} {t' = t'} w hi eo ep) b e x m =
      let z : part l b % 512 ≡ i = omega arith in
      let f : below old l (m₀ (word t l b)) ≡ Some t' = rw z eo in
      way_reads w b (omega (arith, part_step l b)) x (rw f (Memᴰ.tail m))

  pub reads_first : (h t b : ℕ) → 0 < h → Memᴰ t (reads K.old h K.m₀ t b)
  unfolding reads
  reads_first zero t b pos = absurd (omega arith)
  reads_first (suc l) t b pos = Memᴰ.head refl

  pub way_low : {t h p : ℕ} → Way K t h p → h ≤ K.paging.H
  way_low (first et eh ep) = omega arith
  way_low (later w hi eo ep) = omega (arith, way_low w)

  -- one table stands in one place
  pub way_one : {t h p t₁ h₁ p₁ : ℕ} → Way K t h p → Way K t₁ h₁ p₁ → h ≡ h₁ → p ≡ p₁ → t ≡ t₁
  way_one (first et eh ep) (first et₁ eh₁ ep₁) e d = et ∙ sym et₁
  way_one (first et eh ep) (later w hi eo ep₁) e d = absurd (omega (arith, way_low w))
  way_one (later w hi eo ep) (first et eh ep₁) e d = absurd (omega (arith, way_low w))
  way_one (later {t} {l} {p} {i} w hi eo ep) (later {t = t₁} {l = l₁} {p = p₁} {i = i₁} w₁ hi₁ eo₁ ep₁) e d =
      let et : t ≡ t₁ = way_one w w₁ (ap suc e) (omega arith) in
      let ei : i ≡ i₁ = omega arith in
      cc

  pub moved_at : Sound K → (x : Moved) → Entry K (move x) → Goes K x
  moved_at S x c =
      let r = c.entry in
      let b = start_of r in
      let w = part_first r.l (part_of r) in
      let h : part (suc r.l) b ≡ r.p = omega (arith, part_step r.l b, w, r.low) in
      let ei : part r.l b % 512 ≡ r.i = omega (arith, w, r.low) in
      let none_below = cont_none old m₀ (spot r.l (word r.t r.l b)) b (rw ei (said S r.l _ _ _ c.acted).0) in
      let e : was K b ≡ spot r.l (word_of r) = way_walk r.way b h ∙ stop_cont old r.l m₀ r.t b ∙ none_below ∙ rw ei refl in
      (b, way_part old m₀ H root r.way b h, rw (e, w) c.acted)
