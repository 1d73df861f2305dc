-- Offsets in true numbers: a moved leaf goes up or down by its offset (moved_by), and 13 is given exactly where
-- the true new span leaves 0 to the bound (too_far_iff). Builds on Both. Assumes nothing.
use Prim.Native.Nat.{ℕ, suc, ◌+◌, ◌*◌, ◌^◌, ◌<◌, ◌≤◌}
use mathlib.Core.Path.{◌≡◌, refl}
use mathlib.Core.Logic.{inl, inr, ⊎_elim, ◌↔◌}
use native.Mathlib.Nat.{div-add-mod'}
use native.Mathlib.Omega.{arith}
use Rattle.definitions.specs.Geometry.{span, part}
use Rattle.definitions.specs.Inputs.{Job, place_with}
use Rattle.definitions.specs.Ranges.{shift, decide, shifted}
use Rattle.definitions.specs.Offset.{signed, Fits}
use Rattle.definitions.specs.Pass1.{refuse, act}
use Rattle.definitions.specs.Build.{geometry, height, plan_of}
use Rattle.definitions.specs.Demand.{Proper, Reached, stop_before, entry_before, Moves, MovedBy, word_of, start_of}
use Rattle.definitions.specs.Conditions.{BadEntry, in_tail, into_moved, not_whole, too_far, BadTables, bad, again, twice, taken, crowded, Condition, TooFar}
use Rattle.definitions.specs.declared.Moved.{Moved}
use Rattle.definitions.specs.declared.Place.{Place}
use Rattle.definitions.proofs.Geometry.{span_pos, part_step, part_first, part_below}
use Rattle.definitions.proofs.Acts.{MovesAs}
use Rattle.definitions.proofs.Conditions.{refuse_iff}
use Rattle.definitions.proofs.Offset.{deciding_offsets, decide_offset, target_shifted, past_iff}
use Rattle.definitions.proofs.Checks.{bad_input_number}
use Rattle.definitions.proofs.Cr4.{geometry_sound}
use Rattle.demands.proofs.Pass1.Ways.{way_part}
use Rattle.demands.proofs.Both.Sound.{plan_is}
use Rattle.demands.proofs.Both.Bridge.{moves_as}
use Rattle.demands.proofs.Both.Numbers.{entry_bad, places_number}

part_le : (l b : ℕ) → part l b * span l ≤ b
unfolding part
part_le l b = omega (arith, div-add-mod' b (span l))

module _ (j : Job) (proper : Proper j) where
  offset_word : (l a o : ℕ) → decide (plan_of j).ranges l a ≡ shift o → o < 2 ^ 64
  unfolding plan_of
  offset_word l a o = decide_offset _ (deciding_offsets j.region j.table_offset j.words proper.offset proper.words) l a o

  pub moved_by : (b : ℕ) (x : Moved) → Moves j b x → MovedBy j b x
  moved_by b x m = turn (moves_as j b x m)
    where
      l : ℕ
      l = (stop_before j b).level

      turn : MovesAs (plan_of j) l (part l b * span l) (entry_before j b) x → MovedBy j b x
      turn a =
          let lo : part l b * span l < 2 ^ 63 = omega (arith, part_le l b, m.walked, (geometry_sound j.cr4).word) in
          let hi : shifted (part l b * span l) a.offset < 2 ^ 63 = omega (arith, a.fits, (plan_is j).limit, (geometry_sound j.cr4).field, span_pos l) in
          record {
            offset = a.offset;
            decided = rw a.level a.decided;
            target = rw (a.level, a.address) (target_shifted (part l b * span l) a.offset lo (offset_word l _ a.offset a.decided) hi);
          }

  -- ---- number 13

  far_iff : (t l p i o : ℕ) → i < 512 → Reached j t (suc l) p → decide (plan_of j).ranges l ((p * 512 + i) * span l) ≡ shift o
      → ((plan_of j).geometry.limit < shifted ((p * 512 + i) * span l) o + span l) ↔ (¬ Fits (geometry j).limit ((p * 512 + i) * span l) (span l) (signed o))
  far_iff t l p i o hi way ed =
      let a : ℕ = (p * 512 + i) * span l in
      let w = part_first l (p * 512 + i) in
      let z = way_part _ _ _ _ way a (omega (arith, part_step l a, w)) in
      let lo : a < 2 ^ 63 = omega (arith, part_below (height j) a z, (geometry_sound j.cr4).word) in
      rw (plan_is j).limit (past_iff a o lo (offset_word l a o ed) (geometry j).limit (omega (arith, (geometry_sound j.cr4).field)) (span l) (span_pos l))

  far_entry : (t l p i : ℕ) → i < 512 → Reached j t (suc l) p → (n : ℕ) (q : Place) → n ≡ 13
      → BadEntry (plan_of j) l ((p * 512 + i) * span l) (j.image (512 * t + i)) n q → TooFar j q
  far_entry t l p i low way n q e (in_tail ek h) = absurd (omega arith)
  far_entry t l p i low way n q e (into_moved ek h) = absurd (omega arith)
  far_entry t l p i low way n q e (not_whole ek ed h) = absurd (omega arith)
  far_entry t l p i low way n q e (too_far {o} ek ed eo h) =
      record {
        entry = record { t = t; l = l; p = p; i = i; low = low; way = way };
        is_leaf = rw (plan_is j).old at ek;
        offset = o;
        decided = ed;
        whole = eo;
        leaves = (far_iff t l p i o low way ed).0 h;
        place = refl;
      }

  far_tables : (n : ℕ) (q : Place) → n ≡ 13 → BadTables j n q → TooFar j q
  far_tables n q e (bad c) =
      let r = c.entry in
      far_entry r.t r.l r.p r.i r.low r.way n q e (entry_bad j r.t r.l r.p r.i n q c.acted)
  far_tables n q e (again a w) = absurd (omega arith)
  far_tables n q e (twice a b ne w) = absurd (omega arith)
  far_tables n q e (taken a b ne d w) = absurd (omega arith)
  far_tables n q e (crowded a xs d from more w) = absurd (omega arith)

  far_refused : (q : Place) → TooFar j q → Condition j 13 q
  far_refused q f =
      let r = f.entry in
      let q₁ = place_with (start_of r) r.l f.offset in
      let far = (far_iff r.t r.l r.p r.i f.offset r.low r.way f.decided).1 f.leaves in
      let w : act (plan_of j) r.l (start_of r) (j.image (word_of r)) ≡ refuse 13 q₁ =
      (refuse_iff (plan_of j) r.l (start_of r) (j.image (word_of r)) 13 q₁).1
      (too_far (rw (plan_is j).old f.is_leaf) f.decided f.whole far) in
      inr (inl (bad {n = 13} {q = q} (record { entry = r; acted = rw f.place w })))

  -- 13 is given exactly where the true new span of a leaf is not within 0 and the bound
  pub too_far_iff : (q : Place) → Condition j 13 q ↔ TooFar j q
  too_far_iff q = (
    ⊎_elim (λ b. absurd (omega (arith, (bad_input_number j 13 q b).1))) (⊎_elim (far_tables 13 q refl) (λ b. absurd (omega (arith, places_number j 13 q b)))),
    far_refused q,
  )
