-- The cases of an entry that points to a table, each from the facts that the code's tests give.
-- Assumes nothing.
use Rattle.std.proofs.Common.{◌≡◌, ℕ, zero, suc, ◌+◌, ◌*◌, ◌/◌, ◌%◌, ◌^◌, ◌<◌, ◌≤◌, Bool, true, false, cond, List, length, sym, ap, ◌∙◌, ap₂, arith}
use Rattle.std.specs.Prelude.{None, Some, Ok, Err}
use Rattle.definitions.specs.Words.{Mem, Tables, put, mark}
use Rattle.definitions.specs.Entry.{pointer, address, with_address}
use Rattle.definitions.specs.Inputs.{place_at, refusal_at}
use Rattle.definitions.specs.Refusals.{number_of}
use Rattle.definitions.specs.declared.refusals.Error.{Error}
use Rattle.definitions.specs.Ranges.{within, table_at, used_tables, shifted, moved_region, table_in}
use Rattle.definitions.specs.Step.{Step, stop}
use Rattle.definitions.specs.Pass1.{State, Act, follow, perform}
use Rattle.definitions.specs.declared.Region.{Region}
use Rattle.definitions.specs.declared.Refusal.{Refusal}
use Rattle.definitions.proofs.Entry.{address_is}
use Rattle.definitions.proofs.Kind.{within_bounds}
use Rattle.definitions.proofs.Pass1.{act_free, act_follow, act_into_moved, act_outside, perform_again, perform_down}
use Rattle.definitions.proofs.Splits.{impossible}
use Rattle.moved.specs.View.{leaves_of}
use Rattle.moved.specs.declared.Store.{Store}
use Rattle.reached.specs.Held.{set_of}
use Rattle.reached.specs.declared.Reached.{Reached}
use Rattle.region.proofs.Laws.{in_table, in_no_table}
use Rattle.pass1.specs.declared.Plan.{Plan}
use Rattle.pass1.specs.declared.Walk.{Walk}
use Rattle.pass1.specs.declared.Spot.{Spot}
use Rattle.pass1.specs.Walks.{act_at, view, plan_of, PlanFits, performed, Points, walk_of, Opens}

pointer_level : (l e : ℕ) → pointer l e ≡ true → 1 ≤ l
unfolding pointer
pointer_level zero e h = impossible (ap (λ (z : Bool). cond z 1 0) h)
pointer_level (suc l) e h = omega arith

-- the moved table's address fits an entry
pub to_fits : {p : Plan} {x : Spot} {a to i : ℕ} → PlanFits p → Points x a → table_in p.old a ≡ Some i
    → to ≡ (a + p.offset) % 2 ^ 64 → (to % 4096 ≡ 0) × (to < 2 ^ 52)
unfolding moved_region shifted
to_fits {p} {x} {a} {to} {i} h points found t =
    let inside = within_bounds p.old a (in_table p.old a i found).0 in
    let here : a ≡ x.entry % 2 ^ 52 / 4096 * 4096 = points.target ∙ address_is x.entry in
    let base : p.new.gpa ≡ (p.old.gpa + p.offset) % 2 ^ 64 = ap (λ (r : Region). r.gpa) h.moved in
    let size : p.new.size ≡ p.old.size = ap (λ (r : Region). r.size) h.moved in
    (omega (arith, here, h.whole, t), omega (arith, inside, base, size, h.new.end, h.geometry.field, t))

-- an act at the entry
abbrev performing : (ℕ → State → Step State) → Spot → Mem → List ℕ → Walk → Act → Step State
performing down x m xs w v = perform (length xs / 3) down x.level x.va x.word (view m xs w) v

acts : (p : Plan) (x : Spot) (m : Mem) (w : Walk) (ws xs : List ℕ) (down : ℕ → State → Step State) {v : Act}
    → act_at (plan_of p ws (length xs)) x ≡ v → performing down x m xs w v ≡ performed ws p down x m xs w
acts p x m w ws xs down e = sym (ap (performing down x m xs w) e)

-- the entry's address, in a region and outside it
inside : (r : Region) {x : Spot} {a i : ℕ} → Points x a → table_in r a ≡ Some i
    → (within r (address x.entry) ≡ true) × (table_at r (address x.entry) ≡ i)
inside r {x} {a} {i} points found = in_table r (address x.entry) i (ap (table_in r) (sym points.target) ∙ found)

outside : (r : Region) {x : Spot} {a : ℕ} → Points x a → table_in r a ≡ None → within r (address x.entry) ≡ false
outside r {x} points out = in_no_table r (address x.entry) (ap (table_in r) (sym points.target) ∙ out)

-- the entry with the moved table's address
abbrev moved : Plan → Spot → ℕ
moved p x = with_address x.entry (shifted (address x.entry) p.offset)

follows : (p : Plan) (x : Spot) {a i : ℕ} → Points x a → table_in p.old a ≡ Some i → i < p.old.used / 4096
    → (ws xs : List ℕ) → act_at (plan_of p ws (length xs)) x ≡ follow i (moved p x)
unfolding used_tables
follows p x points found low ws xs =
    let is = points.pointer in
    let here = inside p.old points found in
    act_follow (plan_of p ws (length xs)) x.level x.va x.entry is.here is.points here.0 (rw here.1 low)
    ∙ ap (λ (n : ℕ). follow n (moved p x)) here.1

-- the entry is refused with e
refuses : {p : Plan} {x : Spot} {m : Mem} {v v' : Reached} (e : Error)
    → ((ws xs : List ℕ) (s : Store) (down : ℕ → State → Step State)
    → stop (number_of e) (place_at x.va x.level) ≡ performed ws p down x m xs (walk_of v s))
    → {r : Refusal} → r ≡ refusal_at e x.va x.level → Opens p x m v m v' (Err r)
refuses e h c = rw c (record { step = h; fits = tt })

module _ {p : Plan} {x : Spot} {m : Mem} {v : Reached} {a : ℕ} (points : Points x a) where
  module _ {v' : Reached} {i : ℕ} (found : table_in p.old a ≡ Some i) where
    pub opens_free : p.old.used / 4096 ≤ i → {r : Refusal} → r ≡ refusal_at Error.FreeTail x.va x.level → Opens p x m v m v' (Err r)
    unfolding perform used_tables
    opens_free h =
        let is = points.pointer in
        let here = inside p.old points found in
        refuses Error.FreeTail λ ws xs s down.
        acts p x m (walk_of v s) ws xs down (act_free (plan_of p ws (length xs)) x.level x.va x.entry is.here is.points here.0 (rw here.1 h))

    module _ (low : i < p.old.used / 4096) where
      pub opens_again : set_of v i ≡ true → {r : Refusal} → r ≡ refusal_at Error.SharedTable x.va x.level → Opens p x m v m v' (Err r)
      opens_again b =
          refuses Error.SharedTable λ ws xs s down.
          sym (perform_again (length xs / 3) down x.level x.va x.word (view m xs (walk_of v s)) i (moved p x) b)
          ∙ acts p x m (walk_of v s) ws xs down (follows p x points found low ws xs)

      pub opens_down : set_of v i ≡ false
          → {to k : ℕ} → to ≡ (a + p.offset) % 2 ^ 64 → k ≡ with_address x.entry to → {m' : Mem} → m' ≡ put m x.word k
          → set_of v' ≡ mark (set_of v) i
          → Opens p x m v m' v' (Ok (Some i))
      unfolding shifted
      opens_down b {to} {k} et ev {m'} em es =
          let same : k ≡ moved p x = ev ∙ ap (with_address x.entry) (et ∙ ap (λ (n : ℕ). (n + p.offset) % 2 ^ 64) points.target) in
          let written : m' ≡ put m x.word (moved p x) = em ∙ ap (put m x.word) same in
          record {
            step = λ ws xs s down.
                ap₂ (λ (z : Mem) (y : Tables). down i (record { mem = z; reached = y; moved = leaves_of xs s })) written es
                ∙ sym (perform_down (length xs / 3) down x.level x.va x.word (view m xs (walk_of v s)) i (moved p x) b)
                ∙ acts p x m (walk_of v s) ws xs down (follows p x points found low ws xs);
            fits = (omega arith, pointer_level x.level x.entry points.pointer.points);
          }

  module _ (out : table_in p.old a ≡ None) where
    pub opens_moved : {i : ℕ} → table_in p.new a ≡ Some i → {r : Refusal} → r ≡ refusal_at Error.IntoMoved x.va x.level → Opens p x m v m v (Err r)
    unfolding perform
    opens_moved found =
        let is = points.pointer in
        let away = outside p.old points out in
        let there = (inside p.new points found).0 in
        refuses Error.IntoMoved λ ws xs s down.
        acts p x m (walk_of v s) ws xs down (act_into_moved (plan_of p ws (length xs)) x.level x.va x.entry is.here is.points away there)

    pub opens_outside : table_in p.new a ≡ None → Opens p x m v m v (Ok None)
    unfolding perform
    opens_outside q =
        let is = points.pointer in
        let away = outside p.old points out in
        let there = outside p.new points q in
        record {
          step = λ ws xs s down.
              acts p x m (walk_of v s) ws xs down (act_outside (plan_of p ws (length xs)) x.level x.va x.entry is.here is.points away there);
          fits = tt;
        }
