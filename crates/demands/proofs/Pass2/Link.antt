-- Pass 2, a fresh table is linked at an absent entry on the way (Linked, link_step): the tables are Good still and the way goes on in it
-- (link_comes), and what is done from there on is done from here on (from). Builds on Leaf and Write. Assumes nothing.
use Prim.Native.Nat.{ℕ, zero, suc, ◌+◌, ◌*◌, ◌%◌, ◌<◌, ◌≤◌}
use mathlib.Core.Path.{◌≡◌, refl, sym, ◌∙◌, ap}
use mathlib.Core.Logic.{◌⊎◌, inl, inr, ⊎_elim}
use native.Mathlib.Decide.{dec_le}
use native.Mathlib.Omega.{arith}
use Rattle.definitions.specs.Words.{Mem, put}
use Rattle.definitions.specs.Geometry.{part}
use Rattle.definitions.specs.Step.{Step, go, stop}
use Rattle.definitions.specs.Ranges.{Kind, absent, table}
use Rattle.definitions.specs.Pass2.{Fill}
use Rattle.definitions.specs.Walk.{Spot, spot, nothing, end_of, table_of, stop_of, end_at}
use Rattle.definitions.specs.declared.Moved.{Moved}
use Rattle.definitions.specs.declared.Place.{Place}
use Rattle.definitions.proofs.Splits.{on_eq, impossible}
use Rattle.definitions.proofs.Puts.{put_same, put_other}
use Rattle.definitions.proofs.Geometry.{part_step}
use Rattle.demands.proofs.Shared.Walks.{Map, stand, On, Down, word, stop_cont, cont_none, cont_some}
use Rattle.demands.proofs.Shared.Paging.{Paging, kind_in, link_in, size_in, Lawful, at, walk, Addr}
use Rattle.demands.proofs.Pass2.Leaf.{Fit, puts_wide, Blocked, leaf_way, past_way, differs, full, Ok, Comes}
use Rattle.demands.proofs.Pass2.Write.{stops, nothing_there, onto, either, pointed}

-- the fresh table `u` was linked on the way to the new address of `x`
pub record Linked (W : Paging) (x : Moved) (m m₁ : Mem) (u : ℕ) : Type 0 where
  same : (b : ℕ) → Addr W b → walk W m₁ b ≡ walk W m b
  one : suc (at W m₁ x.address).level ≡ (at W m x.address).level
  none_there : walk W m x.address ≡ nothing
  step : (b : ℕ) → Addr W b
      → ((at W m₁ b).level ≡ (at W m b).level)
      ⊎ ((suc (at W m₁ b).level ≡ (at W m b).level)
      × (part (at W m b).level b ≡ part (at W m b).level x.address)
      × ((at W m b).level ≡ (at W m x.address).level))
  further : (b : ℕ) → Addr W b → (at W m₁ b ≡ at W m b) ⊎ (512 * u ≤ (at W m₁ b).at)
  lands : 512 * u ≤ (at W m₁ x.address).at
  off : (k : ℕ) → ¬ (k ≡ (at W m x.address).at) → m₁ k ≡ m k
  there : (k : ℕ) → k ≡ (at W m x.address).at → m₁ k ≡ link_in W u
  zeros : (k : ℕ) → 512 * u ≤ k → m₁ k ≡ 0

module _ {W : Paging} (X : Lawful W) {x : Moved} (fit : Fit W x) where
  open X use {zero_absent, link_table}
  open x use {address as a}

  abbrev kind : ℕ → ℕ → Kind
  kind = kind_in W

  -- a walk in a table of zeros finds nothing, at once, and there
  fresh : (h : ℕ) (m : Mem) (u b : ℕ) → 0 < h → ((i : ℕ) → m (512 * u + i) ≡ 0)
      → (end_at kind m (stop_of kind h m u b) ≡ nothing) × (suc (stop_of kind h m u b).level ≡ h) × (512 * u ≤ (stop_of kind h m u b).at)
  unfolding end_at end_of table_of
  fresh zero m u b h z = absurd (omega arith)
  fresh (suc l) m u b h z =
      let e : kind l (m (word u l b)) ≡ absent = rw (z (part l b % 512)) (zero_absent l) in
      rw (stop_cont, cont_none kind m (spot l (word u l b)) b (rw e refl), e) (refl, refl, omega arith)

  module _ {m : Mem} {u l t : ℕ} (C : Comes W x m u (suc l) t) (ek : kind_in W l (m (word t l x.address)) ≡ absent) (room : u < size_in W) (hl : 0 < l) where
    open C use {good as G, on}

    abbrev k : ℕ
    k = word t l a

    abbrev m₂ : Mem
    m₂ = put m k (link_in W u)

    abbrev P₂ : Map
    P₂ = stand G.P u l (part l a)

    link_there : kind l (m₂ k) ≡ table u
    link_there = rw (put_same m k (link_in W u) k refl) (link_table l u hl room)

    blank : (j : ℕ) → 512 * u ≤ j → m₂ j ≡ 0
    blank j h = put_other m k (link_in W u) j (omega (arith, on.low)) ∙ G.free j h

    empty : (i : ℕ) → m₂ (512 * u + i) ≡ 0
    empty i = blank (512 * u + i) (omega arith)

    -- the tables there were keep their places
    kept : (h t₁ b : ℕ) → On u G.P h t₁ b → On (suc u) P₂ h t₁ b
    kept h t₁ b o =
        let n : ¬ (t₁ ≡ u) = omega (arith, o.low) in
        record {
          low = omega (arith, o.low);
          height = put_other G.P.ht u l t₁ n ∙ o.height;
          prefix = put_other G.P.pre u (part l a) t₁ n ∙ o.prefix;
        }

    link_down : Down kind (suc u) P₂ m₂
    unfolding table_of
    link_down t₁ l₁ i t' h₁ hi hh e =
        on_eq t₁ u
        (λ d. impossible (cc (empty i, zero_absent l₁)))
        (λ n.
        let hh' : G.P.ht t₁ ≡ suc l₁ = sym (put_other G.P.ht u l t₁ n) ∙ hh in
        let ep = put_other G.P.pre u (part l a) t₁ n in
        ⊎_elim
        (λ o.
        let c = G.down t₁ l₁ i t' (omega arith) hi hh' o in
        let n' : ¬ (t' ≡ u) = omega (arith, c.0) in
        (omega (arith, c.0), put_other G.P.ht u l t' n' ∙ c.1, rw (put_other G.P.pre u (part l a) t' n', ep) c.2))
        (λ c.
        let e' : t' ≡ u = cc (link_table l u hl room) in
        let ep' = put_same G.P.pre u (part l a) t' e' in
        (omega arith, put_same G.P.ht u l t' e' ∙ sym c.2, rw (ep', ep, c.0) (omega (arith, c.1, on.prefix, part_step l a))))
        (pointed X fit C ek (link_in W u) t₁ l₁ i t' hi hh' e))

    arrives : (b : ℕ) → part l b ≡ part l a → at W m₂ b ≡ stop_of kind l m₂ u b
    unfolding table_of
    arrives b e = onto X fit C ek (link_in W u) b ∙ rw (stops X fit C ek b e) (cont_some kind m₂ (spot l k) b u (rw link_there refl))

    pub link_comes : Comes W x (put m (word t l x.address) (link_in W u)) (suc u) l u
    link_comes =
        record {
          good = record { P = P₂; on = λ b r. kept W.H W.root b (G.on b r); down = link_down; free = λ j h. blank j (omega arith) };
          on = record { low = omega arith; height = put_same G.P.ht u l u refl; prefix = put_same G.P.pre u (part l a) u refl };
          arrives = arrives;
        }

    -- no walk ends in another way, and only those of the entry's addresses end lower
    pub link_step : Linked W x m (put m (word t l x.address) (link_in W u)) u
    link_step =
        record {
          same = λ b r. ⊎_elim (λ c. c.1) (λ c. rw (arrives b c.1, c.2) (found b).0) (touched b r);
          one = rw (arrives a refl, there) (found a).1;
          none_there = nothing_there X fit C ek;
          step = λ b r. ⊎_elim
              (λ c. inl (ap (λ (s : Spot). s.level) c.0))
              (λ c. inr (rw (arrives b c.1, c.0, there) ((found b).1, c.1, refl)))
              (touched b r);
          further = λ b r. ⊎_elim (λ c. inl c.0) (λ c. inr (rw (arrives b c.1) (found b).2)) (touched b r);
          lands = rw (arrives a refl) (found a).2;
          off = λ j n. put_other m k (link_in W u) j (λ e. n (e ∙ sym (ap (λ (s : Spot). s.at) there)));
          there = λ j e. put_same m k (link_in W u) j (e ∙ ap (λ (s : Spot). s.at) there);
          zeros = blank;
        }
      where
        there : at W m a ≡ spot l k
        there = stops X fit C ek a refl

        touched : (b : ℕ) → Addr W b
            → ((at W m₂ b ≡ at W m b) × (walk W m₂ b ≡ walk W m b)) ⊎ ((at W m b ≡ spot l k) × (part l b ≡ part l a) × (walk W m b ≡ nothing))
        touched = either X fit C ek (link_in W u)

        found : (b : ℕ) → (end_at kind m₂ (stop_of kind l m₂ u b) ≡ nothing) × (suc (stop_of kind l m₂ u b).level ≡ l) × (512 * u ≤ (stop_of kind l m₂ u b).at)
        found b = fresh l m₂ u b hl empty

-- what is done from `g` on, where a fresh table is linked, is done from `f` on
module _ (W : Paging) (x : Moved) (ra : Addr W x.address) (f g : Fill)
    (eu : g.next ≡ suc f.next) (em : g.merged ≡ f.merged) (room : f.next < size_in W)
    (w : Linked W x f.mem g.mem f.next) (hl : x.level < (at W f.mem x.address).level) where
  open x use {address as a}

  blocked : {n : ℕ} {q : Place} → Blocked W x g.mem g.next n q → Blocked W x f.mem f.next n q
  blocked (leaf_way lo e) = leaf_way lo (sym (w.same a ra) ∙ e)
  blocked (past_way lo e) = past_way lo (sym (w.same a ra) ∙ e)
  blocked (differs el d) = differs el (⊎_elim (λ c. absurd (omega (arith, w.one))) (λ c. absurd (c.1 (w.same a ra ∙ w.none_there))) d)
  blocked (full lo hi e h some) = full lo (omega (arith, w.one)) w.none_there (omega (arith, w.one)) (λ k. omega (arith, w.one, some (omega arith)))

  pub from : (o : Step Fill) → Ok W x g o → Ok W x f o
  from (stop n p) ok = blocked ok
  from (go o) both =
      let ok = both.0 in (
        record {
          good = ok.good;
          inside = ok.inside;
          keep = λ b r. ⊎_elim (λ e. inl (e ∙ w.same b r)) (λ p. inr (sym (w.same b r) ∙ p.0, p.1)) (ok.keep b r);
          landed = ok.landed;
          fits = λ h. ok.fits (omega arith);
          count = omega (arith, ok.count, w.one);
          lower = λ b r. ⊎_elim (λ e. omega (arith, ok.lower b r)) (λ p. omega (arith, ok.lower b r, p.0)) (w.step b r);
          only = λ b h r lo hi. elim (dec_le h (at W g.mem b).level) [
            | yes d ↦ ok.only b h r lo d
            | no n ↦ ⊎_elim
                (λ e. absurd (n (omega arith)))
                (λ p. let e : h ≡ (at W f.mem b).level = omega (arith, p.0) in (rw e p.1, omega (arith, p.2)))
                (w.step b r)
          ];
          further = λ b r. ⊎_elim (λ e. ⊎_elim (λ d. inl (e ∙ d)) (λ d. inr (rw e d)) (w.further b r)) (λ h. inr (omega arith)) (ok.further b r);
          words = λ k h. ⊎_elim
              (λ e. on_eq k (at W f.mem a).at
              (λ d. inr (record {
                place = sym d;
                free = w.none_there;
                what = inr (hl, f.next, omega arith, omega (arith, ok.count, ok.landed, ok.lower a ra), e ∙ w.there k d);
              }))
              (λ n. inl (e ∙ w.off k n)))
              (λ o. absurd (omega (arith, w.lands, o.place)))
              (ok.words k (omega arith));
          news = λ k h. elim (dec_le (512 * g.next) k) [
            | yes d ↦ ⊎_elim inl (λ c. inr (c.0, puts_wide W x _ _ _ _ _ _ (omega arith) (omega arith) c.1)) (ok.news k d)
            | no n ↦ ⊎_elim
                (λ e. inl (e ∙ w.zeros k h))
                (λ c. inr (_, puts_wide W x _ _ _ _ _ _ (omega arith) (omega arith) c.what))
                (ok.words k (omega arith))
          ];
        },
        ⊎_elim (λ c. inl (c.0 ∙ ap suc em, sym (w.same a ra) ∙ c.1)) (λ c. inr (c.0 ∙ em, sym (w.same a ra) ∙ c.1)) both.1,
      )
