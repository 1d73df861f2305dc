-- Both passes of a job: where pass 2 stops at a leaf, the leaves of lower new addresses are those that are in (AtStop, at_stop), and the
-- tables needed before a place on its way are counted (needs_before). Builds on Left and Pass2.Leaves. Assumes nothing.
use Prim.Native.Nat.{ℕ, ◌+◌, ◌-◌, ◌<◌, ◌≤◌}
use mathlib.Core.Path.{◌≡◌, refl, sym, ◌∙◌}
use mathlib.Core.List.Memᴰ
use mathlib.Core.List.{List, ◌∷◌, Memᴰ}
use mathlib.Core.Logic.{◌⊎◌, inl, inr, ⊎_elim}
use native.Mathlib.Decide.{dec_le}
use native.Mathlib.Omega.{arith}
use Rattle.definitions.specs.Words.{Mem}
use Rattle.definitions.specs.Geometry.{part}
use Rattle.definitions.specs.Inputs.{Job, place_at}
use Rattle.definitions.specs.Ranges.{used_tables}
use Rattle.definitions.specs.Pass1.{State}
use Rattle.definitions.specs.Walk.{in_leaf, past}
use Rattle.definitions.specs.Demand.{Proper, stop_before, Moves, TablePlace}
use Rattle.definitions.specs.Order.{NeededBefore}
use Rattle.definitions.specs.declared.Moved.{Moved}
use Rattle.definitions.specs.declared.Place.{Place}
use Rattle.definitions.proofs.Leaves.{ascending_before, ascending_lower}
use Rattle.definitions.proofs.Checks.{Good}
use Rattle.demands.proofs.Shared.Lists.{Counts, counts_same}
use Rattle.demands.proofs.Shared.Walks.{leaf_level, past_level}
use Rattle.demands.proofs.Shared.Paging.{Paging, kind_in, Addr, at, walk}
use Rattle.demands.proofs.Pass1.Passing.{Sound, Goes, Fixed}
use Rattle.demands.proofs.Pass2.Growth.{shared, Need, Lacking, grow_more}
use Rattle.demands.proofs.Pass2.Leaves.{Stuck}
use Rattle.demands.proofs.Both.Passes.{fits, listed}
use Rattle.demands.proofs.Both.Sound.{paging, passing, sound}
use Rattle.demands.proofs.Both.Bridge.{goes, moved}
use Rattle.demands.proofs.Both.Left.{one_leaf, stop_same}

-- pass 2 stopped at the leaf x, with the leaves before in
pub record AtStop (j : Job) {xs : List Moved} {m : Mem} {n : ℕ} {q : Place} (T : Stuck (paging j) xs m (used_tables j.region) n q) : Type 0 where
  pub from : ℕ
  pub moves : Moves j from T.x
  pub going : (y : Moved) → Memᴰ y (T.x ∷ T.before) → Goes (passing j) y
  pub reach : (y : Moved) → Memᴰ y (T.x ∷ T.before) → Addr (paging j) y.address
  -- those before are those of lower addresses, and no other leaf has the address of x
  pub earlier : (y : Moved) → Memᴰ y T.before → y.address < T.x.address
  pub lower : (c : ℕ) (y : Moved) → Moves j c y → y.address < T.x.address → Memᴰ y T.before
  pub one : (c : ℕ) (y : Moved) → Moves j c y → y.address ≡ T.x.address → y ≡ T.x
  -- they are at their levels
  pub landed : (y : Moved) → Memᴰ y T.before → (at (paging j) T.m₁ y.address).level ≤ y.level
  -- the level at which the walk of the new address of x ends, if it ends in something
  pub at_leaf : (l e : ℕ) → walk (paging j) T.m₁ T.x.address ≡ in_leaf l e → (at (paging j) T.m₁ T.x.address).level ≡ l
  pub at_past : (l e : ℕ) → walk (paging j) T.m₁ T.x.address ≡ past l e → (at (paging j) T.m₁ T.x.address).level ≡ l

module _ (j : Job) (proper : Proper j) (good : Good j) {s : State} (X : Fixed (passing j) s)
    {n : ℕ} {q : Place} (T : Stuck (paging j) s.moved s.mem (used_tables j.region) n q) where
  open T use {x, m₁, u₁, in_before as B}

  abbrev a : ℕ
  a = x.address

  abbrev W : Paging
  W = paging j

  S : Sound (passing j)
  S = sound j proper good

  listed_in : (y : Moved) → Memᴰ y (x ∷ T.before) → Memᴰ y s.moved
  listed_in y e =
      rw T.split
      (⊎_elim
      (λ d. Memᴰ.append_right T.before (Memᴰ.head d))
      (λ d. Memᴰ.append_left (x ∷ T.after) d)
      (Memᴰ.cases_cons e))

  goes_in : (y : Moved) → Memᴰ y (x ∷ T.before) → Goes (passing j) y
  goes_in y e = X.sound y (listed_in y e)

  reaches : (y : Moved) → Memᴰ y (x ∷ T.before) → Addr W y.address
  reaches y e = (fits S X y (goes_in y e)).address

  pub at_stop : AtStop j T
  at_stop =
      let o = goes_in x (Memᴰ.head refl) in
      record {
        from = o.0;
        moves = moved j x o;
        going = goes_in;
        reach = reaches;
        earlier = ascending_before T.before x T.after (rw T.split at X.tidy);
        lower = λ c y m. ascending_lower T.before x T.after (rw T.split at X.tidy) y (rw T.split at (listed S X y (goes j c y m)));
        one = λ c y m. one_leaf j proper good X c o.0 y x m (moved j x o);
        landed = λ y e.
            let w = B.inside y e y.address (reaches y (Memᴰ.tail e)) refl in
            let v = leaf_level (kind_in W) m₁ (at W m₁ y.address) y.level y.entry w in
            omega arith;
        at_leaf = leaf_level (kind_in W) m₁ (at W m₁ a);
        at_past = past_level (kind_in W) m₁ (at W m₁ a);
      }

  Z : AtStop j T
  Z = at_stop

  r : Addr W a
  r = Z.reach x (Memᴰ.head refl)

  -- the words of demand 3 and those of growth
  module _ (l : ℕ) (high : x.level ≤ l) (p : TablePlace) where
    abbrev Growing : Type 0
    Growing = Need W T.before s.mem p ⊎ Lacking W m₁ l a p

    on_way : p.height ≤ (stop_before j a).level → l < p.height → part p.height a ≡ p.part → Growing
    on_way missing above way =
        elim (dec_le p.height (at W m₁ a).level) [
          | yes d ↦ inr (above, d, way)
          | no d ↦
              let gone : p.height ≤ (at W s.mem a).level = omega (arith, stop_same j proper good X a r) in
              let w = B.only a p.height r (omega arith) gone in
              inl (record {
                by = w.0;
                one = w.1;
                above = w.3;
                way = sym w.2 ∙ way;
                missing = shared W p.height s.mem w.0.address a w.2 gone;
              })
        ]

    to : NeededBefore j (place_at a l) p → Growing
    to c =
        let z = c.need.leaf in
        ⊎_elim
        (λ lo.
        let e = Z.lower c.need.from z c.need.moves lo in
        let same = stop_same j proper good X z.address (Z.reach z (Memᴰ.tail e)) in
        inl (record { by = z; one = e; above = c.need.above; way = c.need.way; missing = omega (arith, c.need.missing) }))
        (λ w. on_way (rw w.0 at c.need.missing) w.1 (rw w.0 at c.need.way))
        c.earlier

    back : Growing → NeededBefore j (place_at a l) p
    back =
        ⊎_elim
        (λ c.
        let e = Memᴰ.tail c.one in
        let g = Z.going c.by e in
        let missing : p.height ≤ (stop_before j c.by.address).level =
        omega (arith, c.missing, stop_same j proper good X c.by.address (Z.reach c.by e)) in
        record {
          need = record { from = g.0; leaf = c.by; moves = moved j c.by g; above = c.above; way = c.way; missing = missing };
          earlier = inl (Z.earlier c.by c.one);
        })
        (λ c.
        let missing : p.height ≤ (stop_before j a).level = omega (arith, c.1, B.lower a r, stop_same j proper good X a r) in
        record {
          need = record { from = Z.from; leaf = x; moves = Z.moves; above = omega (arith, c.0); way = c.2; missing = missing };
          earlier = inr (refl, c.0);
        })

  pub needs_before : (l : ℕ) → T.x.level ≤ l
      → Counts (NeededBefore j (place_at T.x.address l)) (used_tables j.region) (T.u₁ + ((at (paging j) T.m₁ T.x.address).level - l))
  needs_before l high = counts_same (to l high) (back l high) (grow_more W l a T.before s.mem m₁ (used_tables j.region) u₁ B.grown Z.landed)
