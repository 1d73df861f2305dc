-- What the theorems take from single steps, and the readings that look right and are not (section 13 of the specification).
-- Each is what an edit of must-fail/ breaks. Assumes nothing.
use mathlib.Core.Path.{◌≡◌, refl}
use mathlib.Core.Bool.{Bool, true, false, not, cond}
use Prim.Native.Nat.{ℕ, zero, suc, ◌<◌}
use native.Mathlib.Omega.{arith}
use borrow.Author.Tests.{eqb-true, lt-leb, le-leb}
use Rattle.definitions.specs.Entry.{present, large, pointer, address}
use Rattle.definitions.specs.Inputs.{Region, Place}
use Rattle.definitions.specs.Step.{Step, go, unless}
use Rattle.definitions.specs.Ranges.{within, table_at, leaf, outside, table, kind_of, kind}
use Rattle.definitions.specs.Pass1.{Moved, State, without, pointed}
use Rattle.definitions.specs.Pass2.{Fill, placed, linked}
use Rattle.definitions.proofs.Puts.{put_same}
use Rattle.definitions.proofs.Splits.{impossible}

-- a leaf that moves leaves nothing at its old place
pub cleared : (k : ℕ) (x : Moved) (s : State) → (without k x s).mem k ≡ 0
cleared k x s = put_same s.mem k 0 k refl

-- a table that an entry is followed to is reached
pub marked : (k t v : ℕ) (s : State) → (pointed k t v s).reached t ≡ true
marked k t v s = put_same s.reached t true t refl

-- a table that is linked is no longer free
pub counted : (r : Region) (k : ℕ) (s : Fill) → (linked r k s).next ≡ suc s.next
counted r k s = refl

-- a test that lets the work go on held
test_held : (b : Bool) (n : ℕ) (q : Place) (rest : Step Fill) (g : Fill) → unless (not b) n q rest ≡ go g → b ≡ true
unfolding unless
test_held true n q rest g w = refl
test_held false n q rest g w = impossible (cc)

-- a leaf is merged only with an entry that is equal in all 64 bits
pub merges_equal : (l : ℕ) (x : Moved) (k e : ℕ) (s g : Fill) → present e ≡ true → placed l x k e s ≡ go g → e ≡ x.entry
unfolding placed
merges_equal l x k e s g p w = eqb-true e x.entry (test_held _ _ _ _ _ (rw p at w))

-- no walk follows an entry with bit 7 below level 3
pub large_ends : (r : Region) (l e : ℕ) → l < 3 → present e ≡ true → large e ≡ true → kind r l e ≡ leaf
unfolding kind kind_of pointer
large_ends r zero e h p q = rw p refl
large_ends r (suc l) e h p q = rw (p, lt-leb 3 (suc l) h, le-leb 1 (suc l) (omega arith)) (turn (large e) q)
  where
    turn : (b : Bool) → b ≡ true → cond (not b) (cond (within r (address e)) (table (table_at r (address e))) outside) leaf ≡ leaf
    turn b q = rw q refl
