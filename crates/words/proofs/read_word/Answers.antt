-- `words::read_word` meets its contract: the eight bytes are those from the word's place on. No loop.
-- Assumes nothing.
use mathlib.Core.Path.{◌≡◌, ap, ◌∙◌}
use mathlib.Core.List.{List}
use Prim.Native.Nat.{ℕ, suc, ◌+◌, ◌*◌, ◌<◌}
use lib.ListN.{get_or}
use native.Mathlib.Omega.{arith}
use Rattle.std.proofs.Common.{rules}
use Rattle.std.specs.Int.{w64, from_le_bytes}
use Rattle.definitions.specs.Words.{number}
use Rattle.definitions.proofs.Words.{words_at}
use Rattle.words.proofs.read_word.Goals as goal

-- the number in eight bytes from place p
eight : (xs ys : List ℕ) (p : ℕ) → ((i : ℕ) → i < 8 → get_or ys i 0 ≡ get_or xs (p + i) 0) → from_le_bytes w64 ys ≡ number 8 xs p
unfolding number
eight xs ys p e =
    omega (
      arith,
      at 0 p (omega arith) (omega arith),
      at 1 (suc p) (omega arith) (omega arith),
      at 2 (suc (suc p)) (omega arith) (omega arith),
      at 3 (suc (suc (suc p))) (omega arith) (omega arith),
      at 4 (suc (suc (suc (suc p)))) (omega arith) (omega arith),
      at 5 (suc (suc (suc (suc (suc p))))) (omega arith) (omega arith),
      at 6 (suc (suc (suc (suc (suc (suc p)))))) (omega arith) (omega arith),
      at 7 (suc (suc (suc (suc (suc (suc (suc p))))))) (omega arith) (omega arith),
    )
  where
    at : (i q : ℕ) → i < 8 → p + i ≡ q → get_or ys i 0 ≡ get_or xs q 0
    at i q l s = e i l ∙ ap (λ (k : ℕ). get_or xs k 0) s

each : (c : goal.After-from_le_bytes) (i : ℕ) → i < 8 → get_or c.from_fn-bytes.result i 0 ≡ get_or c.args.buf.now (8 * c.args.k + i) 0
each c i low = let h = c.from_fn-bytes.ensures.items.at i 0 low in search rules

pub returns : goal.returns
returns c = rw (c.from_le_bytes.ensures, words_at) (eight c.args.buf.now c.from_fn-bytes.result (8 * c.args.k) (each c))
