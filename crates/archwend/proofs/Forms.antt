-- What a kind of fresh entry means.
-- Over the promises of specs/Entries.antt.
-- Assumes nothing.
use mathlib.Core.Path.{◌≡◌}
use Prim.Native.Nat.{ℕ}
use native.Mathlib.Omega.{arith}
use borrow.Author.Tests.{ne_eqb, lt-leb}
use Rattle.definitions.specs.Entry.{answer_if, fits_leaf, set_leaf}
use Rattle.definitions.proofs.Answers.{refused}
use Rattle.archwend.specs.Entries.{fresh_of}

-- a number that is no kind is refused
pub no_kind : (k e a : ℕ) → (k ≡ 0 → ⊥) → (k ≡ 1 → ⊥) → (k ≡ 2 → ⊥) → (k ≡ 3 → ⊥) → refused e ≡ fresh_of k e a
unfolding fresh_of set_leaf fits_leaf answer_if
no_kind k e a n0 n1 n2 n3 = rw (ne_eqb k 3 n3, lt-leb k 2 (omega arith))
