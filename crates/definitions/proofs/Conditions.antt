-- What pass 1 refuses of one entry: exactly what the conditions say.
-- Assumes nothing.
use mathlib.Core.Path.{◌≡◌}
use mathlib.Core.Logic.{◌↔◌}
use Prim.Native.Nat.{ℕ, ◌<◌}
use native.Mathlib.Omega.{arith}
use Rattle.definitions.specs.Inputs.{Place}
use Rattle.definitions.specs.Ranges.{leaf, outside, table}
use Rattle.definitions.specs.Pass1.{Plan, refuse, act}
use Rattle.definitions.specs.Conditions.{BadEntry, in_tail, into_moved, not_whole, too_far}
use Rattle.definitions.proofs.Kind.{kind_tells}
use Rattle.definitions.proofs.Pass1.{act_free, act_into_moved, act_unaligned, act_too_far}
use Rattle.definitions.proofs.Acts.{act_means}

module _ (p : Plan) (l a e : ℕ) where
  bad_refused : (n : ℕ) (q : Place) → BadEntry p l a e n q → act p l a e ≡ refuse n q
  bad_refused n q (in_tail {t} ek h) = let c = kind_tells p.old l e (table t) ek in act_free p l a e c.0 c.1 c.2 (rw c.3 h)
  bad_refused n q (into_moved ek w) = let c = kind_tells p.old l e outside ek in act_into_moved p l a e c.0 c.1 c.2 w
  bad_refused n q (not_whole {o} ek ed ne) = let c = kind_tells p.old l e leaf ek in act_unaligned p l a e c.0 c.1 o ed ne
  bad_refused n q (too_far {o} ek ed eo h) = let c = kind_tells p.old l e leaf ek in act_too_far p l a e c.0 c.1 o ed eo h

  -- an entry is refused exactly where something is wrong with it, with that number and place
  pub refuse_iff : (n : ℕ) (q : Place) → (act p l a e ≡ refuse n q) ↔ BadEntry p l a e n q
  refuse_iff n q = ((λ w. rw w at (act_means p l a e)), bad_refused n q)

pub bad_entry_number : {p : Plan} {l a e n : ℕ} {q : Place} → BadEntry p l a e n q → (0 < n) × (n < 16)
bad_entry_number (in_tail ek h) = (omega arith, omega arith)
bad_entry_number (into_moved ek w) = (omega arith, omega arith)
bad_entry_number (not_whole ek ed ne) = (omega arith, omega arith)
bad_entry_number (too_far ek ed eo h) = (omega arith, omega arith)
