-- Pass 2, one entry on the way to a leaf's new address: which walks its change touches (either), and the leaf at it, where it stood
-- already (same_ok) or is written (write_ok). Builds on Leaf. Assumes nothing.
use Prim.Native.Nat.{ℕ, suc, ◌+◌, ◌*◌, ◌/◌, ◌%◌, ◌<◌}
use mathlib.Core.Path.{◌≡◌, refl, sym, ◌∙◌, ap}
use Rattle.std.specs.Prelude.{None, Some}
use mathlib.Core.Logic.{◌⊎◌, inl, inr, ⊎_elim}
use native.Mathlib.Omega.{arith}
use Rattle.definitions.specs.Words.{Mem, put}
use Rattle.definitions.specs.Geometry.{part}
use Rattle.definitions.specs.Ranges.{Kind, absent}
use Rattle.definitions.specs.Walk.{Spot, spot, nothing, end_of, table_of, below, end_at}
use Rattle.definitions.specs.declared.Moved.{Moved}
use Rattle.definitions.proofs.Splits.{on_eq, impossible}
use Rattle.definitions.proofs.Puts.{put_same, put_other}
use Rattle.definitions.proofs.Geometry.{part_step}
use Rattle.demands.proofs.Shared.Walks.{word, word_table, word_entry, cont, stop_cont, cont_none, changed}
use Rattle.demands.proofs.Shared.Paging.{Paging, kind_in, Lawful, at, walk, Addr, ended}
use Rattle.demands.proofs.Pass2.Leaf.{Fit, Inserted, Comes}

module _ {W : Paging} (X : Lawful W) {x : Moved} (fit : Fit W x) {m : Mem} {u l t : ℕ} (C : Comes W x m u (suc l) t) where
  open X use {pos, absent_any, up}
  open x use {level as L, entry as v, address as a}
  open fit use {is_leaf}
  open C use {good as G, on, arrives}

  abbrev kind : ℕ → ℕ → Kind
  kind = kind_in W

  abbrev k : ℕ
  k = word t l a

  pub reach : (b : ℕ) → part l b ≡ part l a → at W m b ≡ cont (kind_in W) m (spot l (word t l a)) b
  reach b e = arrives b (part_step l b ∙ ap (λ n. n / 512) e ∙ sym (part_step l a)) ∙ stop_cont kind l m t b ∙ rw e refl

  -- a walk that ends at the entry is that of an address of the entry
  meets : (b : ℕ) → Addr W b → (at W m b).at ≡ k → ((at W m b).level ≡ l) × (part l b ≡ part l a)
  meets b r e =
      let s = ended W X m u G b r in
      let e1 : (at W m b).at / 512 ≡ t = rw e (word_table t (part l a)) in
      let e2 : (at W m b).at % 512 ≡ part l a % 512 = rw e (word_entry t (part l a)) in
      let h1 : suc (at W m b).level ≡ suc l = cc (s.height, on.height) in
      let h2 : (at W m b).level ≡ l = omega arith in
      let h3 : G.P.pre t * 512 + part l a % 512 ≡ part l b = cc s.prefix in
      (h2, omega (arith, on.prefix, part_step l a))

  pub same_ok : l ≡ L → m (word t l a) ≡ v → Inserted W x m u m u
  unfolding table_of end_of end_at
  same_ok eL ev =
      let here : (b : ℕ) → part l b ≡ part l a → at W m b ≡ spot l k = λ b e.
      reach b e ∙ cont_none kind m (spot l k) b (rw (ev, eL, is_leaf) refl) in
      record {
        good = G;
        inside = λ b r e. rw (here b (rw eL e), ev, eL, is_leaf) refl;
        keep = λ b r. inl refl;
        landed = rw (here a refl) eL;
        fits = λ h. h;
        count = rw (here a refl) (omega arith);
        lower = λ b r. omega arith;
        only = λ b h r lo hi. absurd (omega arith);
        further = λ b r. inl refl;
        words = λ j h. inl refl;
        news = λ j h. inl (G.free j h);
      }

  -- the entry is absent
  module _ (ek : kind_in W l (m (word t l a)) ≡ absent) where
    dead : (l' : ℕ) → below kind l' (m k) ≡ None
    unfolding table_of
    dead l' = rw (absent_any l l' (m k) ek) refl

    pub stops : (b : ℕ) → part l b ≡ part l a → at W m b ≡ spot l (word t l a)
    stops b e = reach b e ∙ cont_none kind m (spot l k) b (dead l)

    pub nothing_there : walk W m a ≡ nothing
    unfolding end_at end_of
    nothing_there = rw (stops a refl, ek) refl

    module _ (w : ℕ) where
      abbrev m₁ : Mem
      m₁ = put m k w

      pub onto : (b : ℕ) → at W (put m (word t l a) w) b ≡ cont (kind_in W) (put m (word t l a) w) (at W m b) b
      onto b = changed kind up W.H m k w dead W.root b pos

      -- a walk that the change of the entry may touch is one that found nothing there
      pub either : (b : ℕ) → Addr W b
          → ((at W (put m (word t l a) w) b ≡ at W m b) × (walk W (put m (word t l a) w) b ≡ walk W m b))
          ⊎ ((at W m b ≡ spot l (word t l a)) × (part l b ≡ part l a) × (walk W m b ≡ nothing))
      unfolding end_of end_at
      either b r =
          on_eq (at W m b).at k
          (λ e.
          let c = meets b r e in
          let s : at W m b ≡ spot l k = λ i. record { level = c.0 i; at = e i } in
          inr (s, c.1, rw (s, ek) refl))
          (λ n.
          let e = put_other m k w (at W m b).at n in
          let c : at W m₁ b ≡ at W m b = onto b ∙ cont_none kind m₁ (at W m b) b (rw e (ended W X m u G b r).stop) in
          inl (c, rw (c, e)))

      -- an entry that points to a table after the change did so before, or is the changed one
      pub pointed : (t₁ l₁ i t' : ℕ) → i < 512 → G.P.ht t₁ ≡ suc l₁ → below (kind_in W) l₁ (put m (word t l a) w (512 * t₁ + i)) ≡ Some t'
          → (below (kind_in W) l₁ (m (512 * t₁ + i)) ≡ Some t')
          ⊎ ((t₁ ≡ t) × (i ≡ part l a % 512) × (l₁ ≡ l) × (below (kind_in W) l w ≡ Some t'))
      pointed t₁ l₁ i t' hi ht₁ e =
          on_eq (512 * t₁ + i) k
          (λ d.
          let et : t₁ ≡ t = omega arith in
          let hs : suc l₁ ≡ suc l = cc on.height in
          let el : l₁ ≡ l = omega arith in
          inr (et, omega arith, el, rw (put_same m k w (512 * t₁ + i) d, el) at e))
          (λ n. inl (rw (put_other m k w (512 * t₁ + i) n) at e))

    pub write_ok : l ≡ L → Inserted W x m u (put m (word t l a) v) u
    unfolding table_of end_of end_at
    write_ok eL =
        let same = put_same m k v k refl in
        let stop : below kind l v ≡ None = rw (eL, is_leaf) refl in
        let idle : (b : ℕ) → cont kind (put m k v) (spot l k) b ≡ spot l k = λ b. cont_none kind (put m k v) (spot l k) b (rw same stop) in
        let stays : (b : ℕ) → Addr W b → at W (put m k v) b ≡ at W m b = λ b r.
        ⊎_elim (λ c. c.0) (λ c. onto v b ∙ rw c.0 (idle b)) (either v b r) in
        let level_stays : (b : ℕ) → Addr W b → (at W (put m k v) b).level ≡ (at W m b).level = λ b r. ap (λ (s : Spot). s.level) (stays b r) in
        record {
          good = record {
            P = G.P;
            on = G.on;
            down = λ t₁ l₁ i t' h₁ hi hh e. ⊎_elim (G.down t₁ l₁ i t' h₁ hi hh) (λ c. impossible (cc)) (pointed v t₁ l₁ i t' hi hh e);
            free = λ j h. put_other m k v j (omega (arith, on.low)) ∙ G.free j h;
          };
          inside = λ b r e. rw (onto v b, stops b (rw eL e), idle b, same, eL, is_leaf) refl;
          keep = λ b r. ⊎_elim (λ c. inl c.1) (λ c. inr (c.2, rw eL at c.1)) (either v b r);
          landed = rw (stays a fit.address, stops a refl) eL;
          fits = λ h. h;
          count = rw (stops a refl) (omega arith);
          lower = λ b r. omega (arith, level_stays b r);
          only = λ b h r lo hi. absurd (omega (arith, level_stays b r));
          further = λ b r. inl (stays b r);
          words = λ j h. on_eq j k
              (λ e. inr (record {
                place = ap (λ (s : Spot). s.at) (stops a refl) ∙ sym e;
                free = nothing_there;
                what = inl (ap (λ (s : Spot). s.level) (stops a refl) ∙ eL, put_same m k v j e);
              }))
              (λ n. inl (put_other m k v j n));
          news = λ j h. inl (put_other m k v j (omega (arith, on.low)) ∙ G.free j h);
        }
