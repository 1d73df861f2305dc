-- The checks before pass 1, from what the code tests: what each that fails makes of the job, and that all passed. The code tests by
-- the bound of the plan's geometry, which is the one of cr4.
-- Assumes nothing.
use Rattle.std.specs.Prelude.{◌≡◌, Bool, true, false, List, ℕ, ◌+◌, ◌/◌, ◌≤◌, ◌<◌, ◌&&◌, length, Some, None}
use Rattle.std.proofs.Common.{sym, ap, ◌∙◌, arith}
use Rattle.definitions.specs.Inputs as I
use Rattle.definitions.specs.Refusals.{number_of}
use Rattle.definitions.specs.Build.{geometry_of, geometry, height, root, start, job_of}
use Rattle.definitions.specs.Pass1.{State}
use Rattle.definitions.specs.Ranges.{region_ok, within, table_at, used_tables, offset_ok, list_ok, ranges_ok, ranges_of}
use Rattle.definitions.specs.Step.{Step, stop, stopped}
use Rattle.definitions.specs.declared.Refusal.{Refusal}
use Rattle.definitions.specs.declared.refusals.Error.{Error}
use Rattle.definitions.specs.declared.paging.Geometry.{Geometry}
use Rattle.definitions.proofs.Checks.{Good, each_ok, start_region, start_image, start_output, start_root, start_offset, start_ranges, start_free, start_good}
use Rattle.region.specs.Meaning.{Valid, OffsetValid, GivesTable}
use Rattle.region.proofs.Laws.{in_table, in_no_table}
use Rattle.ranges.specs.Lists.{ListValid}
use Rattle.pass1.specs.declared.Plan.{Plan}

-- a refusal with no place
refused : {s : Step State} (e : Error) {r : Refusal} → s ≡ stop (number_of e) I.nowhere → r ≡ I.refusal_plain e → s ≡ stopped r
refused e h d = h ∙ sym (ap (λ (r : Refusal). stopped r) d)

module _ (p : Plan) (cr3 cr4 : ℕ) (ws image : List ℕ) (n m : ℕ) (g : p.geometry ≡ geometry_of cr4) where
  abbrev j : I.Job
  j = job_of p.old cr3 cr4 p.offset ws image n m

  limit_is : (geometry j).limit ≡ p.geometry.limit
  unfolding job_of
  limit_is = sym (ap (λ (x : Geometry). x.limit) g)

  height_is : height j ≡ p.geometry.top + 1
  unfolding job_of
  height_is = omega (arith, ap (λ (x : Geometry). x.top) g)

  module _ {v : Bool} (valid : Valid p.geometry p.old v) where
    region_is : region_ok (geometry j).limit j.region ≡ v
    unfolding job_of
    region_is = ap (λ (l : ℕ). region_ok l p.old) limit_is ∙ sym valid

    pub bad_region : {r : Refusal} → v ≡ false → r ≡ I.refusal_plain Error.Region → start j ≡ stopped r
    bad_region bad = refused Error.Region (start_region j (region_is ∙ bad))

    module _ (ok : v ≡ true) where
      pub bad_image : {r : Refusal} → ¬ (length image ≡ p.old.used) → r ≡ I.refusal_plain Error.Lengths → start j ≡ stopped r
      unfolding job_of
      bad_image bad = refused Error.Lengths (start_image j (region_is ∙ ok) bad)

      module _ (whole : length image ≡ p.old.used) where
        pub bad_output : {r : Refusal} → n < p.old.size → r ≡ I.refusal_plain Error.Lengths → start j ≡ stopped r
        unfolding job_of
        bad_output bad = refused Error.Lengths (start_output j (region_is ∙ ok) whole bad)

        module _ (room : p.old.size ≤ n) where
          pub bad_root : {r : Refusal} → GivesTable p.old cr3 None → r ≡ I.refusal_plain Error.Cr3 → start j ≡ stopped r
          unfolding job_of
          bad_root bad = refused Error.Cr3 (start_root j (region_is ∙ ok) whole room (in_no_table p.old cr3 (sym bad)))

          module _ {t : ℕ} (found : GivesTable p.old cr3 (Some t)) {v₁ : Bool} (moves : OffsetValid p.geometry p.old p.offset v₁) where
            at : (within p.old cr3 ≡ true) × (table_at p.old cr3 ≡ t)
            at = in_table p.old cr3 t (sym found)

            offset_is : offset_ok (geometry j).limit j.region j.table_offset ≡ v₁
            unfolding job_of
            offset_is = ap (λ (l : ℕ). offset_ok l p.old p.offset) limit_is ∙ sym moves

            pub bad_offset : {r : Refusal} → v₁ ≡ false → r ≡ I.refusal_plain Error.TableOffset → start j ≡ stopped r
            unfolding job_of
            bad_offset bad = refused Error.TableOffset (start_offset j (region_is ∙ ok) whole room at.0 (offset_is ∙ bad))

            module _ (ok₁ : v₁ ≡ true) {v₂ : Bool} (list : ListValid ws p.geometry p.old v₂) where
              ranges_are : (list_ok j.words && each_ok j) ≡ v₂
              unfolding job_of
              ranges_are = ap (λ (l : ℕ). list_ok ws && ranges_ok l p.old 0 (ranges_of ws)) limit_is ∙ sym list

              pub bad_ranges : {r : Refusal} → v₂ ≡ false → r ≡ I.refusal_plain Error.Ranges → start j ≡ stopped r
              unfolding job_of
              bad_ranges bad = refused Error.Ranges (start_ranges j (region_is ∙ ok) whole room at.0 (offset_is ∙ ok₁) (ranges_are ∙ bad))

              module _ (ok₂ : v₂ ≡ true) where
                pub free_root : {r : Refusal} → p.old.used / 4096 ≤ t → r ≡ I.refusal_at Error.FreeTail 0 (p.geometry.top + 1) → start j ≡ stopped r
                unfolding job_of used_tables root
                free_root bad d =
                    start_free j (region_is ∙ ok) whole room at.0 (offset_is ∙ ok₁) (ranges_are ∙ ok₂) (rw at.1 bad)
                    ∙ ap (λ (l : ℕ). stop 9 (I.place_at 0 l)) height_is
                    ∙ sym (ap (λ (r : Refusal). stopped r) d)

                pub all_good : t < p.old.used / 4096 → Good j × (t ≡ root j)
                unfolding job_of used_tables root
                all_good low =
                    (start_good j (region_is ∙ ok) whole room at.0 (offset_is ∙ ok₁) (ranges_are ∙ ok₂) (rw at.1 low), sym at.1)
