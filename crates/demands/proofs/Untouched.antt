-- What an accepted build leaves alone: tables that no walk reads, entries that no move touches, the free tail
-- (untouched). Builds on Both. Assumes nothing.
use Prim.Native.Nat.{ℕ, suc, ◌+◌, ◌*◌, ◌/◌, ◌%◌, ◌≤◌, ◌<◌}
use mathlib.Core.Path.{◌≡◌, refl, sym, ◌∙◌, ap}
use mathlib.Core.Bool.{true, false}
use mathlib.Core.List.{Memᴰ}
use mathlib.Core.Logic.{◌⊎◌, inl, inr, ⊎_elim, ◌↔◌}
use native.Mathlib.Omega.{arith}
use Rattle.definitions.specs.Words.{Mem}
use Rattle.definitions.specs.Geometry.{part}
use Rattle.definitions.specs.Entry.{present}
use Rattle.definitions.specs.Inputs.{Job}
use Rattle.definitions.specs.Ranges.{Kind, absent, leaf, outside, table, used_tables}
use Rattle.definitions.specs.Build.{geometry, height, plan_of, build}
use Rattle.definitions.specs.Walk.{nothing, end_of, end_at}
use Rattle.definitions.specs.Demand.{Proper, IsRead, reads_before, Reached, Written, leaf_in, table_in, Became, Untouched}
use Rattle.definitions.specs.declared.Moved.{Moved}
use Rattle.definitions.proofs.Splits.{on_bool, impossible}
use Rattle.definitions.proofs.Geometry.{part_below}
use Rattle.definitions.proofs.Ranges.{region_sound}
use Rattle.definitions.proofs.Kind.{kind_tells}
use Rattle.demands.proofs.Shared.Paging.{at, ended}
use Rattle.demands.proofs.Pass1.Passing.{Sound}
use Rattle.demands.proofs.Pass2.Leaf.{Puts, Wrote}
use Rattle.demands.proofs.Both.Passes.{fits, tables_before}
use Rattle.demands.proofs.Both.Sound.{paging, passing, sound}
use Rattle.demands.proofs.Both.Bridge.{addr, moved}
use Rattle.demands.proofs.Both.Outcome.{Ran, accepted_used, accepted_output}

-- a walk that finds nothing ends at an absent entry
end_absent : (k : Kind) (l e : ℕ) → end_of k l e ≡ nothing → k ≡ absent
unfolding end_of
end_absent absent l e w = refl
end_absent leaf l e w = impossible (cc)
end_absent outside l e w = impossible (cc)
end_absent (table t) l e w = impossible (cc)

module _ (j : Job) (proper : Proper j) (R : Ran j (build j)) where
  S : Sound (passing j)
  S = sound j proper R.good

  abbrev m₁ : Mem
  m₁ = R.s.mem

  abbrev u : ℕ
  u = used_tables j.region

  -- what is put for a moved leaf is what may be written
  written : (x : Moved) → Memᴰ x R.s.moved → (l v : ℕ) → Puts (paging j) x u R.f.next l v → Written j l (part l x.address) v
  written x e l v p =
      let m = moved j x (R.fixed.sound x e) in
      ⊎_elim (λ c. rw c.1 (leaf_in m (sym c.0) refl)) (λ c. rw c.4 (table_in m c.0 refl c.2 (omega (arith, c.3, accepted_used j R)))) p

  -- pass 2 writes for x into entry i of table t
  module _ (x : Moved) (e : Memᴰ x R.s.moved) (t i v : ℕ) (hi : i < 512) (w : Wrote (paging j) x m₁ u R.f.next (512 * t + i) v) where
    abbrev level : ℕ
    level = (at (paging j) m₁ x.address).level

    -- the table is reached, and the entry maps the new address of x
    stands : (R.fixed.good.P.ht t ≡ suc level) × (R.fixed.good.P.pre t * 512 + i ≡ part level x.address)
    stands =
        let d = ended (paging j) S.lawful m₁ u R.fixed.good x.address (fits S R.fixed x (R.fixed.sound x e)).address in
        let et : (at (paging j) m₁ x.address).at / 512 ≡ t = omega (arith, w.place) in
        let ei : (at (paging j) m₁ x.address).at % 512 ≡ i = omega (arith, w.place) in
        (rw et at d.height, rw (et, ei) at d.prefix)

    was_absent : present (m₁ (512 * t + i)) ≡ false
    unfolding end_at
    was_absent = rw (← w.place) (kind_tells (plan_of j).new level (m₁ (at (paging j) m₁ x.address).at) absent (end_absent _ _ _ w.free))

    written_at : (l p : ℕ) → R.fixed.good.P.ht t ≡ suc l → R.fixed.good.P.pre t ≡ p → Written j l (p * 512 + i) v
    written_at l p eh ep =
        let el : level ≡ l = omega (arith, stands.0) in
        let ea : part level x.address ≡ p * 512 + i = omega (arith, stands.1) in
        rw (← ea, ← el) (written x e level v w.what)

  pub is_read : (t : ℕ) → R.s.reached t ≡ true → IsRead j t
  unfolding reads_before
  is_read t e = let r = R.fixed.read t e in (r.0, part_below (height j) r.0 r.1, r.2)

  read_iff : (t : ℕ) → IsRead j t ↔ ((l : ℕ) × (p : ℕ) × Reached j t (suc l) p)
  unfolding reads_before
  read_iff t = ((λ r. R.fixed.way t (R.fixed.seen r.0 (addr j r.0 r.1) t r.2)), λ w. is_read t (R.fixed.ways w.2 (omega arith)).seen)

  at_word : (k : ℕ) → (build j).output k ≡ R.f.mem k
  at_word k = ap (λ (m : Mem). m k) (accepted_output j R)

  unread : (t i : ℕ) → t < u → ¬ IsRead j t → i < 512 → (build j).output (512 * t + i) ≡ j.image (512 * t + i)
  unread t i lt none hi =
      on_bool (R.s.reached t)
      (λ e.
      let c = R.fixed.unread t e in
      at_word (512 * t + i)
      ∙ ⊎_elim (λ d. d ∙ c.1 i hi) (λ w. absurd (omega (arith, c.0, (stands w.0 w.1 t i _ hi w.2).0))) (R.filled.words (512 * t + i) (omega arith)))
      (λ e. absurd (none (is_read t e)))

  entries : (t l p i : ℕ) → Reached j t (suc l) p → i < 512 → Became j l (p * 512 + i) (j.image (512 * t + i)) ((build j).output (512 * t + i))
  entries t l p i way hi =
      let c = R.fixed.ways way (omega arith) in
      let r = R.fixed.read t c.seen in
      let lt = tables_before S R.fixed r.0 r.1 t r.2 in
      let left = R.fixed.entries t l p i way hi in
      ⊎_elim (λ e. inl (at_word (512 * t + i) ∙ e ∙ left))
      (λ w. inr (
        rw left at (was_absent w.0 w.1 t i _ hi w.2),
        rw (at_word (512 * t + i)) (written_at w.0 w.1 t i _ hi w.2 l p c.height c.prefix),
      ))
      (R.filled.words (512 * t + i) (omega arith))

  fresh : (k : ℕ) → j.region.used ≤ 8 * k → ((build j).output k ≡ 0) ⊎ ((l : ℕ) × (p : ℕ) × Written j l p ((build j).output k))
  unfolding used_tables
  fresh k h =
      rw (at_word k)
      (⊎_elim inl (λ c. inr (c.2, part c.2 c.0.address, written c.0 c.1 c.2 _ c.3))
      (R.filled.news k (omega (arith, (region_sound (geometry j).limit j.region R.good.region).used))))

  pub untouched : Untouched j
  untouched =
      record {
        read = read_iff;
        unread = unread;
        entries = entries;
        fresh = fresh;
        zeros = λ k h. at_word k ∙ R.filled.good.free k (omega (arith, accepted_used j R));
      }
