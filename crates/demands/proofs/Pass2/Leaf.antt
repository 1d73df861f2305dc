-- Pass 2, what is said of one leaf `x` that is put in: what it leaves of every walk and word (Inserted), whether it was merged (Merges),
-- or why it is refused (Blocked); and where its way stands at a table (Comes). Builds on Shared. Assumes nothing.
use Prim.Native.Nat.{ℕ, suc, ◌+◌, ◌*◌, ◌<◌, ◌≤◌}
use mathlib.Core.Path.{◌≡◌}
use mathlib.Core.Logic.{◌⊎◌, inl, inr, ⊎_elim}
use native.Mathlib.Omega.{arith}
use Rattle.definitions.specs.Words.{Mem}
use Rattle.definitions.specs.Geometry.{part}
use Rattle.definitions.specs.Inputs.{place_at}
use Rattle.definitions.specs.Step.{Step, go, stop}
use Rattle.definitions.specs.Ranges.{leaf}
use Rattle.definitions.specs.Pass2.{Fill}
use Rattle.definitions.specs.Walk.{nothing, in_leaf, past, stop_of}
use Rattle.definitions.specs.declared.Moved.{Moved}
use Rattle.definitions.specs.declared.Place.{Place}
use Rattle.demands.proofs.Shared.Walks.{On}
use Rattle.demands.proofs.Shared.Paging.{Paging, kind_in, link_in, size_in, In, at, walk, Addr, Good}

module _ (W : Paging) (x : Moved) where
  open x use {level as L, entry as v, address as a}

  -- a leaf that can be put in
  pub record Fit : Type 0 where
    pub is_leaf : kind_in W L v ≡ leaf
    pub low : L < W.H
    pub address : Addr W a

  -- what is put at an entry of level l: the leaf, or above it a fresh entry of one of the tables that were free
  abbrev pub Puts : (u u' l w : ℕ) → Type 0
  Puts u u' l w = ((l ≡ L) × (w ≡ v)) ⊎ ((L < l) × (n : ℕ) × (u ≤ n) × (n < u') × (w ≡ link_in W n))

  pub puts_wide : (u u₁ u₂ u' l w : ℕ) → u ≤ u₁ → u₂ ≤ u' → Puts u₁ u₂ l w → Puts u u' l w
  puts_wide u u₁ u₂ u' l w lo hi p = ⊎_elim inl (λ c. inr (c.0, c.1, omega (arith, c.2), omega (arith, c.3), c.4)) p

  -- the word w is put at the place k, below the table u, where the walk of `a` found nothing
  pub record Wrote (m : Mem) (u u' k w : ℕ) : Type 0 where
    pub place : (at W m a).at ≡ k
    pub free : walk W m a ≡ nothing
    pub what : Puts u u' (at W m a).level w

  -- the leaf is in: `m` and `u` before, `m'` and `u'` after
  pub record Inserted (m : Mem) (u : ℕ) (m' : Mem) (u' : ℕ) : Type 0 where
    pub good : Good W m' u'
    pub inside : (b : ℕ) → Addr W b → In x b → walk W m' b ≡ in_leaf L v
    pub keep : (b : ℕ) → Addr W b → (walk W m' b ≡ walk W m b) ⊎ ((walk W m b ≡ nothing) × In x b)
    pub landed : (at W m' a).level ≡ L
    pub fits : u ≤ size_in W → u' ≤ size_in W
    pub count : u' + L ≡ u + (at W m a).level
    pub lower : (b : ℕ) → Addr W b → (at W m' b).level ≤ (at W m b).level
    pub only : (b h : ℕ) → Addr W b → (at W m' b).level < h → h ≤ (at W m b).level → (part h b ≡ part h a) × (L < h)
    pub further : (b : ℕ) → Addr W b → (at W m' b ≡ at W m b) ⊎ (512 * u ≤ (at W m' b).at)
    pub words : (k : ℕ) → k < 512 * u → (m' k ≡ m k) ⊎ Wrote m u u' k (m' k)
    pub news : (k : ℕ) → 512 * u ≤ k → (m' k ≡ 0) ⊎ ((l : ℕ) × Puts u u' l (m' k))

  -- at its level and new address stands a table, or something that is not the leaf
  abbrev pub Other : Mem → Type 0
  Other m = ((at W m a).level < L) ⊎ (((at W m a).level ≡ L) × (¬ (walk W m a ≡ nothing)) × (¬ (walk W m a ≡ in_leaf L v)))

  -- why pass 2 refuses the leaf, with a number and a place
  pub data Blocked (m : Mem) (u : ℕ) : ℕ → Place → Type 0 where
    leaf_way : {l e : ℕ} → L < l → walk W m a ≡ in_leaf l e → Blocked m u 16 (place_at a l)
    past_way : {l e : ℕ} → L < l → walk W m a ≡ past l e → Blocked m u 17 (place_at a l)
    differs : {l : ℕ} → l ≡ L → Other m → Blocked m u 18 (place_at a l)
    -- a table for each level above l is taken, and no table is left
    full : {l : ℕ} → L < l → l ≤ (at W m a).level → walk W m a ≡ nothing → size_in W + l ≤ u + (at W m a).level
        → (u ≤ size_in W → u + (at W m a).level ≤ size_in W + l) → Blocked m u 19 (place_at a l)

  -- the leaf is merged where it stood already, and written where nothing was
  abbrev pub Merges : Fill → Fill → Type 0
  Merges f g =
      ((g.merged ≡ suc f.merged) × (walk W f.mem a ≡ in_leaf L v)) ⊎ ((g.merged ≡ f.merged) × (walk W f.mem a ≡ nothing))

  abbrev pub Ok : Fill → Step Fill → Type 0
  Ok f (go g) = Inserted f.mem f.next g.mem g.next × Merges f g
  Ok f (stop n p) = Blocked f.mem f.next n p

  -- the way to `a` is at the table `t` of height `h`: every address of the table's part is looked up in it
  pub record Comes (m : Mem) (u h t : ℕ) : Type 0 where
    pub good : Good W m u
    pub on : On u good.P h t a
    pub arrives : (b : ℕ) → part h b ≡ part h a → at W m b ≡ stop_of (kind_in W) h m t b
