-- What the kit's definitions that the specs use do at their edges (edges); docs/TRUST.md has it in words. Nothing rests on it.
-- Assumes nothing.
use mathlib.Core.Path.{◌≡◌, refl}
use mathlib.Core.List.{List, [], ◌∷◌}
use Prim.Native.Nat.{ℕ, ◌-◌, ◌/◌, ◌%◌, ◌^◌, ◌≤◌}
use native.Mathlib.Nat.{div-zero, mod-zero, pow-zero}
use native.Mathlib.Omega.{arith}
use lib.ListN.{get_or, set, take, drop, replicate}
use lib.Seq.{paste}

-- a list of two
abbrev two : List ℕ
two = 7 ∷ 8 ∷ []

record AtEdges : Type 0 where
  difference : (m n : ℕ) → m ≤ n → m - n ≡ 0
  quotient : (n : ℕ) → n / 0 ≡ 0
  remainder : (n : ℕ) → n % 0 ≡ n
  power : (n : ℕ) → n ^ 0 ≡ 1
  replicated : replicate {A = ℕ} 0 7 ≡ []
  -- past the end: the default, no change, all, nothing
  past : (get_or two 2 5 ≡ 5) × (set two 2 9 ≡ two) × (take 3 two ≡ two) × (drop 3 two ≡ [])
  -- pasted over the end, a list grows; past it, what is pasted stands at the end; too little leaves a gap, which closes
  pasted : (paste two 1 two 2 ≡ 7 ∷ 7 ∷ 8 ∷ []) × (paste two 5 two 1 ≡ 7 ∷ 8 ∷ 7 ∷ []) × (paste two 0 (1 ∷ []) 2 ≡ 1 ∷ [])

edges : AtEdges
edges =
    record {
      difference = λ m n h. omega arith;
      quotient = div-zero;
      remainder = mod-zero;
      power = pow-zero;
      replicated = refl;
      past = (refl, refl, refl, refl);
      pasted = (refl, refl, refl);
    }
