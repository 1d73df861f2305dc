-- Both passes of a job: where pass 2 stops is the first place at which something is in the way (first_place). Builds on Refused and
-- RoomOnly. Assumes nothing.
use Prim.Native.Nat.{ℕ, ◌+◌, ◌-◌, ◌<◌, ◌≤◌}
use mathlib.Core.Path.{◌≡◌, refl, sym, ◌∙◌, ap}
use mathlib.Core.List.Memᴰ
use mathlib.Core.List.{List, ◌∷◌, Memᴰ}
use mathlib.Core.Logic.{◌⊎◌, inl, inr, ⊎_elim}
use native.Mathlib.Omega.{arith}
use lib.ListN.{length}
use Rattle.definitions.specs.Inputs.{Job, place_at}
use Rattle.definitions.specs.Ranges.{used_tables, all_tables}
use Rattle.definitions.specs.Pass1.{State}
use Rattle.definitions.specs.Build.{plan_of}
use Rattle.definitions.specs.Walk.{Spot, End, nothing, in_leaf}
use Rattle.definitions.specs.Demand.{Proper, TablePlace, Distinct}
use Rattle.definitions.specs.Conditions.{BadPlaces, on_leaf, in_span, on_past, on_table, on_other, no_room}
use Rattle.definitions.specs.Order.{Earlier, NeededBefore, InWay, stands, no_table, FirstInWay}
use Rattle.definitions.specs.declared.Moved.{Moved}
use Rattle.definitions.specs.declared.Place.{Place}
use Rattle.definitions.proofs.Splits.{on_eq, impossible}
use Rattle.definitions.proofs.Checks.{Good}
use Rattle.definitions.proofs.Order.{earlier_trans, table_place, one_more, no_table_left}
use Rattle.demands.proofs.Shared.Lists.{Counts, within_length}
use Rattle.demands.proofs.Shared.Paging.{Addr, at, walk}
use Rattle.demands.proofs.Pass1.Passing.{Fixed}
use Rattle.demands.proofs.Pass2.Leaf.{Blocked, leaf_way, past_way, differs, full}
use Rattle.demands.proofs.Pass2.Growth.{shared}
use Rattle.demands.proofs.Pass2.Leaves.{Stuck}
use Rattle.demands.proofs.Both.Sound.{paging, passing}
use Rattle.demands.proofs.Both.Bridge.{lands_in}
use Rattle.demands.proofs.Both.Left.{stop_same, tables_same, used_fits}
use Rattle.demands.proofs.Both.Stop.{AtStop, at_stop, needs_before}
use Rattle.demands.proofs.Both.Refused.{refused_for}
use Rattle.demands.proofs.Both.RoomOnly.{still_leaf, still_past, room_only}

-- where the tables needed before q are free, none is wanting at an earlier place
module _ (j : Job) (q : Place)
    (fits : (ps : List TablePlace) → Distinct ps → ((p : TablePlace) → Memᴰ p ps → NeededBefore j q p)
    → used_tables j.region + length ps ≤ all_tables j.region)
    (only_room : (n' : ℕ) (q' : Place) → Earlier q' q → BadPlaces j n' q' → n' ≡ 19) where
  none_before : (n' : ℕ) (q' : Place) → Earlier q' q → ¬ InWay j n' q'
  none_before n' q' lo (stands b n) = n (only_room n' q' lo b)
  none_before n' q' lo (no_table {b} {l} {x} m low le eq other new ps d need h) =
      let c = fits (table_place l x.address ∷ ps) (one_more j q' _ ps new d need)
      (λ p e. ⊎_elim
      (λ w. rw w (record {
        need = record { from = b; leaf = x; moves = m; above = low; way = refl; missing = le };
        earlier = rw eq at lo;
      }))
      (λ w. let k = need p w in record { need = k.need; earlier = earlier_trans (place_at k.need.leaf.address p.height) q' q k.earlier lo })
      (Memᴰ.cases_cons e)) in
      omega arith

module _ (j : Job) (proper : Proper j) (good : Good j) {s : State} (X : Fixed (passing j) s)
    {n : ℕ} {q : Place} (T : Stuck (paging j) s.moved s.mem (used_tables j.region) n q) where
  open T use {x, m₁, u₁, in_before as B}

  Z : AtStop j T
  Z = at_stop j proper good X T

  abbrev a : ℕ
  a = x.address

  -- where the walk of the new address ends, with the leaves before in
  abbrev here : Spot
  here = at (paging j) m₁ a

  abbrev found : End
  found = walk (paging j) m₁ a

  r : Addr (paging j) a
  r = Z.reach x (Memᴰ.head refl)

  -- what a condition at the address of x says: it is want of tables, or at the level of x, or at the level at which the walk ends in something
  abbrev AtAddress : ℕ → Place → Type 0
  AtAddress n' q' = (n' ≡ 19) ⊎ (q'.level ≡ x.level) ⊎ ((¬ (found ≡ nothing)) × (here.level ≡ q'.level))

  in_leaf_lem : (l e : ℕ) → found ≡ in_leaf l e → (¬ (found ≡ nothing)) × (here.level ≡ l)
  in_leaf_lem l e v = (λ z. impossible (cc), Z.at_leaf l e v)

  at_address : (n' : ℕ) (q' : Place) → q'.address ≡ a → BadPlaces j n' q' → AtAddress n' q'
  at_address n' q' ea (on_leaf {l = l} {e} m lo w st) = inr (inr (in_leaf_lem l e (still_leaf j proper good X B a l e r (rw ea at st) (rw ea at w))))
  at_address n' q' ea (in_span {b} {c} {x = y} {y = z} m land lo) =
      on_eq z.address a
      (λ e. let d : y ≡ z = Z.one b y m ea ∙ sym (Z.one c z land.leaf e) in absurd (omega (arith, ap (λ (w : Moved). w.level) d)))
      (λ n. let mz = Z.lower c z land.leaf (omega (arith, land.low)) in
      inr (inr (in_leaf_lem z.level z.entry (B.inside z mz a r (rw ea at (lands_in j y.address c z land))))))
  at_address n' q' ea (on_past {l = l} {e} m lo w) =
      let v = still_past j proper good X B a l e r (rw ea at w) in
      inr (inr (λ z. impossible (cc), Z.at_past l e v))
  at_address n' q' ea (on_table {b} {x = y} m lo) = inr (inl (ap (λ (w : Moved). w.level) (Z.one b y m ea)))
  at_address n' q' ea (on_other {b} {x = y} m el st some other) = inr (inl (ap (λ (w : Moved). w.level) (Z.one b y m ea)))
  at_address n' q' ea (no_room m lo le ps d need h) = inl refl

  -- at a level l of the way, not below x, down to which the walk finds nothing or ends
  module _ (l : ℕ) (low : x.level ≤ l) (up : (found ≡ nothing) ⊎ (here.level ≤ l)) where
    room_before : (n' : ℕ) (q' : Place) → Earlier q' (place_at a l) → BadPlaces j n' q' → n' ≡ 19
    room_before n' q' lo b =
        ⊎_elim
        (λ h. (room_only j proper good X B n' q' (λ c z m le. Z.lower c z m (omega arith)) b).0)
        (λ h. ⊎_elim (λ e. e)
        (⊎_elim (λ e. absurd (omega arith)) (λ e. absurd (⊎_elim e.0 (λ d. omega (arith, e.1)) up)))
        (at_address n' q' h.0 b))
        lo

    needs : Counts (NeededBefore j (place_at a l)) (used_tables j.region) (u₁ + (here.level - l))
    needs = needs_before j proper good X T l low

    first_at : {n : ℕ} → u₁ + (here.level - l) ≤ all_tables (plan_of j).new → InWay j n (place_at a l) → FirstInWay j n (place_at a l)
    first_at room w = record { in_way = w; none = none_before j (place_at a l) fits room_before; fits = fits }
      where
        fits : (ps : List TablePlace) → Distinct ps → ((p : TablePlace) → Memᴰ p ps → NeededBefore j (place_at a l) p)
            → used_tables j.region + length ps ≤ all_tables j.region
        fits ps d need =
            let k = within_length ps needs.list d (λ p e. needs.all p (need p e)) in
            omega (arith, needs.count, tables_same j)

  -- no table is left for the entry of level l
  module _ (l : ℕ) (lo : x.level < l) (le : l ≤ here.level) (empty : found ≡ nothing) where
    room_here : (n' : ℕ) → BadPlaces j n' (place_at a l) → n' ≡ 19
    room_here n' b = ⊎_elim (λ e. e) (⊎_elim (λ e. absurd (omega arith)) (λ e. absurd (e.0 empty))) (at_address n' (place_at a l) refl b)

    new_here : ¬ NeededBefore j (place_at a l) (table_place l a)
    new_here c =
        let z = c.need.leaf in
        ⊎_elim
        (λ h.
        let e = Z.lower c.need.from z c.need.moves h in
        omega (arith, c.need.above, Z.landed z e, shared (paging j) l m₁ z.address a (sym c.need.way) le))
        (λ h. omega arith)
        c.earlier

    want : u₁ + here.level ≡ all_tables (plan_of j).new + l → InWay j 19 (place_at a l)
    want h =
        let g = needs l (omega arith) (inl empty) in
        no_table_left Z.moves lo (omega (arith, B.lower a r, stop_same j proper good X a r)) room_here new_here g.list g.distinct g.only
        (omega (arith, g.count, tables_same j))

  enough : u₁ ≤ all_tables (plan_of j).new
  enough = B.fits (used_fits j good)

  first : {n : ℕ} {q : Place} → Blocked (paging j) x m₁ u₁ n q → BadPlaces j n q → FirstInWay j n q
  first (leaf_way {l} {e} lo w) b =
      let k = Z.at_leaf l e w in
      first_at l (omega arith) (inr (omega arith)) (omega (arith, enough)) (stands b (omega arith))
  first (past_way {l} {e} lo w) b =
      let k = Z.at_past l e w in
      first_at l (omega arith) (inr (omega arith)) (omega (arith, enough)) (stands b (omega arith))
  first (differs {l} el d) b =
      let k : here.level ≤ l = ⊎_elim (λ c. omega arith) (λ c. omega (arith, c.0)) d in
      first_at l (omega arith) (inr k) (omega (arith, enough)) (stands b (omega arith))
  first (full {l} lo le w h some) b = first_at l (omega arith) (inl w) (omega (arith, some enough)) (want l lo le w (omega (arith, some enough)))

  pub first_place : FirstInWay j n q
  first_place = first T.blocked (refused_for j proper good X T)
