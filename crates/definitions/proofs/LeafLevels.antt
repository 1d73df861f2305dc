-- The leaves that pass 1 takes out are of levels below the root's height.
-- Assumes nothing.
use mathlib.Core.List.Memᴰ
use mathlib.Core.List.{Memᴰ}
use mathlib.Core.Logic.{⊎_elim}
use Prim.Native.Nat.{ℕ, zero, suc, ◌+◌, ◌*◌, ◌≤◌, ◌<◌}
use native.Mathlib.Omega.{arith}
use lib.Dec.{leb}
use lib.ListN.{length}
use Rattle.definitions.specs.Words.{slot}
use Rattle.definitions.specs.Geometry.{span}
use Rattle.definitions.specs.Inputs.{place_at}
use Rattle.definitions.specs.Step.{Step, go}
use Rattle.definitions.specs.Pass1.{Plan, Moved, Act, keep, move, follow, refuse, State, taken, without, pointed, perform, visit, walk_table}
use Rattle.definitions.specs.Build.{height, first_pass, root, plan_of}
use Rattle.definitions.specs.Inputs.{Job}
use Rattle.definitions.proofs.Step.{After, after_unless, after_times}
use Rattle.definitions.proofs.Leaves.{remember_only}
use Rattle.definitions.proofs.Acts.{Means, act_means}
use Rattle.definitions.proofs.Checks.{start_state}

-- each leaf is of a level below h
abbrev pub Low : ℕ → State → Type 0
Low h s = (x : Moved) → Memᴰ x s.moved → x.level < h

module _ (p : Plan) (h : ℕ) where
  low_move : (k : ℕ) (x : Moved) (s : State) → x.level < h → Low h s → Low h (without k x s)
  low_move k x s d low y e = ⊎_elim (λ q. rw q d) (low y) (remember_only x s.moved y e)

  low_act : (down : ℕ → State → Step State) → ((t : ℕ) (s : State) → Low h s → After (Low h) (down t s)) → (l a k e : ℕ) → l < h → (s : State) → Low h s
      → (x : Act) → Means p l a e x → After (Low h) (perform p.room down l a k s x)
  unfolding perform
  low_act down ih l a k e d s low keep w = low
  low_act down ih l a k e d s low (move x) w =
      after_unless (Low h) (taken x.address s.moved) 14 (place_at a l) _
      (after_unless (Low h) (leb p.room (length s.moved)) 15 (place_at a l) (go (without k x s)) (low_move k x s (omega (arith, w.level)) low))
  low_act down ih l a k e d s low (follow t v) w = after_unless (Low h) (s.reached t) 10 (place_at a l) (down t (pointed k t v s)) (ih t (pointed k t v s) low)
  low_act down ih l a k e d s low (refuse n q) w = tt

  pub low_walk : (g a t : ℕ) → g ≤ h → (s : State) → Low h s → After (Low h) (walk_table p g a t s)
  unfolding walk_table visit
  low_walk zero a t d s low = low
  low_walk (suc l) a t d s low =
      after_times (Low h) _
      (λ i s' low'. low_act (λ t' s''. walk_table p l (a + i * span l) t' s'') (λ t' s'' low''. low_walk l (a + i * span l) t' (omega arith) s'' low'')
      l (a + i * span l) (slot t i) (s'.mem (slot t i)) (omega arith) s' low' _ (act_means p l (a + i * span l) (s'.mem (slot t i))))
      512 0 s low

pub low_first : (j : Job) → After (Low (height j)) (first_pass j (start_state j))
unfolding first_pass
low_first j = low_walk (plan_of j) (height j) (height j) 0 (root j) (omega arith) (start_state j) (λ x e. absurd (Memᴰ.not-nil e))
