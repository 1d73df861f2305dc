-- `words::fill_from` meets its contract. One loop. Invariant: as many values are pasted from place `from` on as there were turns.
-- Assumes nothing.
use mathlib.Core.Path.{◌≡◌}
use mathlib.Core.List.{List}
use Prim.Native.Nat.{ℕ, ◌+◌, ◌-◌, ◌≤◌, ◌<◌}
use lib.ListN.{length, set, replicate}
use lib.Seq.{paste}
use native.Mathlib.Omega.{arith}
use Rattle.std.proofs.lemmas.List.Edits.{fill_from_more}
use Rattle.words.proofs.fill_from.Goals as goal

-- one turn
turn : {X : Type 0} (d ys : List X) (at i : ℕ) (v : X) → at ≤ i → i < length d → ys ≡ paste d at (replicate (i - at) v) (i - at)
    → set ys i v ≡ paste d at (replicate (i + 1 - at) v) (i + 1 - at)
turn d ys at i v lo hi e =
    let place : at + (i - at) ≡ i = omega arith in
    let more : i + 1 - at ≡ i - at + 1 = omega arith in
    let f = fill_from_more d at (i - at) v (omega arith) in cc

pub loop-i-preserved : goal.loop-i-preserved
loop-i-preserved g c = turn _ _ _ _ _ (omega arith) (omega arith) c.loop-i.invariant
