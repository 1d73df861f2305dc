-- What the checks hand to the passes, what pass 1 hands to pass 2, and how the passes end.
-- Assumes nothing.
use mathlib.Core.Path.{◌≡◌, refl, sym, ap, ap₂, subst, ◌∙◌}
use mathlib.Core.Bool.{true, ◌&&◌}
use mathlib.Core.List.{List, [], Memᴰ}
use Prim.Native.Nat.{ℕ, ◌+◌, ◌*◌, ◌/◌, ◌%◌, ◌^◌, ◌≤◌}
use native.Mathlib.Nat.{zero-add}
use native.Mathlib.Omega.{arith}
use lib.ListN.{length}
use Rattle.definitions.specs.Words.{Mem, words_of, no_tables, mark, count}
use Rattle.definitions.specs.Geometry.{root_height}
use Rattle.definitions.specs.Inputs as I
use Rattle.definitions.specs.Ranges.{region_ok, used_tables, shifted, moved_region, offset_ok, list_ok, ranges_of, ranges_ok, deciding}
use Rattle.definitions.specs.Step.{go}
use Rattle.definitions.specs.Pass1.{walk_table}
use Rattle.definitions.specs.Build.{geometry, height, plan_of, first_pass, second_pass, accepted}
use Rattle.definitions.proofs.Geometry.{SoundGeometry}
use Rattle.definitions.proofs.Ranges.{SoundRegion, region_sound, offset_sound}
use Rattle.definitions.proofs.Step.{After}
use Rattle.definitions.proofs.LeafLevels.{Low, low_first}
use Rattle.definitions.proofs.Checks.{start_state}
use Rattle.definitions.proofs.Cr4.{geometry_sound}
use Rattle.definitions.proofs.Build.{build_first, build_second, build_accepted}
use Rattle.definitions.specs.declared.Counts.{Counts}
use Rattle.definitions.specs.declared.Refusal.{Refusal}
use Rattle.definitions.specs.declared.Region.{Region}
use Rattle.definitions.specs.declared.paging.Geometry.{Geometry}
use Rattle.ranges.specs.Lists.{Listed}
use Rattle.ranges.proofs.Scan.{listed}
use Rattle.moved.specs.View.{nth, leaves_of}
use Rattle.moved.proofs.Leaves.{gather_in, leaves_length}
use Rattle.reached.specs.Held.{set_of}
use Rattle.pass1.specs.Walks.{view, outcome, LeavesHeld, Asked, FirstWalked}
use Rattle.pass1.specs.Walks as P
use Rattle.pass1.specs.declared.Plan.{Plan}
use Rattle.pass1.specs.declared.Walk.{Walk}
use Rattle.pass1.specs.declared.Unfinished.{Unfinished}
use Rattle.pass2.specs.Meaning.{fill_of, begun, FewMore, SecondFits, Filled}
use Rattle.pass2.specs.Meaning as S
use Rattle.pass2.proofs.All.{of_job}
use Rattle.pass2.specs.declared.Fill.{Fill}
use Rattle.std.specs.Prelude.{Result, Ok, Err}
use Rattle.build.specs.Meaning.{counted, report_of, Ready, Passes}

-- ---- what the checks say in numbers
module _ {j : I.Job} {out xs ws : List ℕ} {p : Plan} {t : ℕ} (ready : Ready j out xs ws p t) where
  abbrev g : Geometry
  g = p.geometry

  abbrev r : Region
  r = p.old

  abbrev new : Region
  new = p.new

  abbrev o : ℕ
  o = p.offset

  moves : new ≡ moved_region r o
  moves = ready.moves

  sound : SoundGeometry g
  sound = subst SoundGeometry ready.geometry (geometry_sound j.cr4)

  old_sound : SoundRegion g.limit r
  old_sound =
      let ok = ready.good.region in
      region_sound g.limit r (sym (ap₂ (λ (m : Geometry) (z : Region). region_ok m.limit z) ready.geometry ready.region) ∙ ok)

  shifts : (o % 4096 ≡ 0) × (shifted r.gpa o + r.size ≤ g.limit)
  shifts = offset_sound g.limit r o (sym same ∙ ready.good.offset)
    where
      same : offset_ok (geometry j).limit j.region j.table_offset ≡ offset_ok g.limit r o
      same i = offset_ok (ready.geometry i).limit (ready.region i) (ready.offset i)

  new_sound : SoundRegion g.limit new
  unfolding moved_region shifted
  new_sound =
      let a = old_sound in
      let s = shifts in
      let e : new.gpa ≡ (r.gpa + o) % 2 ^ 64 = ap (λ (z : Region). z.gpa) moves in
      let size : new.size ≡ r.size = ap (λ (z : Region). z.size) moves in
      let used : new.used ≡ r.used = ap (λ (z : Region). z.used) moves in
      record {
        gpa = omega (arith, a.gpa, s.0);
        size = omega (arith, a.size);
        used = omega (arith, a.used);
        some = omega (arith, a.some);
        most = omega (arith, a.most);
        fits = omega (arith, a.fits);
        end = omega (arith, s.1);
      }

  list : Listed ws r
  list = listed (geometry j).limit r ws (sym same ∙ both)
    where
      same : (list_ok j.words && ranges_ok (geometry j).limit j.region 0 (ranges_of j.words))
          ≡ (list_ok ws && ranges_ok (geometry j).limit r 0 (ranges_of ws))
      same i = list_ok (ready.words i) && ranges_ok (geometry j).limit (ready.region i) 0 (ranges_of (ready.words i))

      both : (list_ok j.words && ranges_ok (geometry j).limit j.region 0 (ranges_of j.words)) ≡ true
      both = rw (ready.good.list, ready.good.ranges)

  room : r.size ≤ length out
  room =
      let u : j.region.size ≤ j.output_length = ready.good.output in
      let z : j.region.size ≡ r.size = ap (λ (z : Region). z.size) ready.region in
      omega (arith, ready.output)

  pub asked : Asked (length out) ws p
  asked = record {
    plan = record { geometry = sound; old = old_sound; new = new_sound; moved = moves; whole = shifts.0 };
    list = list;
    used = omega (arith, old_sound.fits, room);
  }

  pub root_used : 4096 * t + 4096 ≤ r.used
  unfolding used_tables
  root_used =
      let u : j.region.used ≡ r.used = ap (λ (z : Region). z.used) ready.region in
      omega (arith, ready.root, ready.good.low, u, old_sound.used)

  -- ---- pass 1

  plan_is : P.plan_of p ws (length xs) ≡ plan_of j
  unfolding plan_of
  plan_is i = record {
    geometry = sym ready.geometry i;
    old = sym ready.region i;
    new = (moves ∙ sym (ap₂ moved_region ready.region ready.offset)) i;
    table_offset = sym ready.offset i;
    ranges = deciding (sym ready.region i) (sym ready.offset i) (ranges_of (sym ready.words i));
    room = ready.room i / 3;
  }

  module _ {m : Mem} {ys : List ℕ} {a : Result Walk Unfinished} (first : FirstWalked ws p t (words_of out) (length xs) m ys a) where
    first_is : outcome m ys a ≡ first_pass j (start_state j)
    unfolding first_pass
    first_is = first.step ∙ (λ i. walk_table (plan_is i) (root_height (sym ready.geometry i)) 0 (ready.root i)
        (record { mem = ready.image i; reached = mark no_tables (ready.root i); moved = [] }))

    pub ends_first : {u : Unfinished} → a ≡ Err u → Passes j m (Err u.refusal)
    ends_first e = build_first j ready.good _ _ (sym first_is ∙ ap (outcome m ys) e)

    module _ {w : Walk} (ok : a ≡ Ok w) where
      goes : first_pass j (start_state j) ≡ go (view m ys w)
      goes = sym first_is ∙ ap (outcome m ys) ok

      low : Low (root_height g) (view m ys w)
      low = subst (λ (h : Geometry). Low (root_height h) (view m ys w)) ready.geometry (subst (After (Low (height j))) goes (low_first j))

      pub stored : (b : ℕ) → b ≡ length out → SecondFits b ys g new t w.store
      unfolding moved_region
      stored b e =
          let size : new.size ≡ r.size = ap (λ (z : Region). z.size) moves in
          record {
            holds = record { geometry = sound; region = new_sound; room = omega (arith, room) };
            table = omega (arith, root_used, old_sound.fits);
            held = subst (LeavesHeld ys) ok first.held;
            levels = λ k h. low (nth ys w.store.front w.store.back k)
                (subst (λ (z : ℕ). Memᴰ (nth ys w.store.front w.store.back z) (leaves_of ys w.store)) (zero-add k)
                (gather_in (w.store.front + w.store.back) (λ i. nth ys w.store.front w.store.back i) 0 k h));
          }

      -- ---- pass 2

      module _ {mid zs : List ℕ} (same : words_of mid ≡ m) {f : Result Fill Refusal} (filled : Filled ys g new t w.store mid zs f) where
        second_is : S.outcome (words_of zs) f ≡ second_pass j (view m ys w)
        unfolding plan_of
        second_is =
            of_job j (view m ys w) ys new w.store mid zs f (moves ∙ sym (ap₂ moved_region ready.region ready.offset)) refl same
            (subst (λ (k : ℕ). Filled ys (geometry j) new k w.store mid zs f) ready.root
            (subst (λ (h : Geometry). Filled ys h new t w.store mid zs f) (sym ready.geometry) filled))

        pub ends_second : {x : Refusal} → f ≡ Err x → Passes j (words_of zs) (Err x)
        ends_second e = build_second j ready.good (view m ys w) goes _ _ (sym second_is ∙ ap (S.outcome (words_of zs)) e)

        -- the new used length fits
        pub used_fits : {k : Fill} → f ≡ Ok k → 4096 * k.next ≤ 512 * 4096
        used_fits {k} q =
            let kept = subst (FewMore new (w.store.front + w.store.back) (begun new)) q filled.kept in
            omega (arith, kept.0, new_sound.most)

        pub ends_go : {k : Fill} → f ≡ Ok k → {c : Counts} → c ≡ counted w k → Passes j (words_of zs) (Ok c)
        unfolding accepted
        ends_go {k} q ep =
            let e = build_accepted j ready.good (view m ys w) goes (fill_of (words_of zs) k) (sym second_is ∙ ap (S.outcome (words_of zs)) q) in
            (ap (λ (c : Counts). report_of (Ok c)) ep ∙ report ∙ sym (ap (λ (b : I.Built). b.report) e), sym (ap (λ (b : I.Built). b.output) e))
          where
            report : report_of (Ok (counted w k)) ≡ (accepted (view m ys w) (fill_of (words_of zs) k)).report
            report i = record {
              number = 0;
              used = 4096 * k.next;
              moved = sym (leaves_length ys w.store) i;
              merged = k.merged;
              reached = count 512 0 (set_of w.reached);
              place = I.nowhere;
            }
