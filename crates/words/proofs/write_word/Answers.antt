-- `words::write_word` meets its contract: the eight bytes pasted are those that `store` sets one by one. No loop.
-- Assumes nothing.
use mathlib.Core.Path.{◌≡◌, ap, ◌∙◌, sym}
use mathlib.Core.List.{List}
use Prim.Native.Nat.{ℕ, ◌+◌, ◌*◌, ◌/◌, ◌≤◌}
use lib.ListN.{length}
use lib.Seq.{paste}
use native.Mathlib.Omega.{arith}
use Rattle.std.proofs.lemmas.List.Edits.{sets-eq}
use Rattle.std.specs.Int.{w64, to_le_bytes}
use Rattle.definitions.specs.Words.{store, words_of}
use Rattle.definitions.proofs.Words.{words_store, length_store}
use Rattle.words.proofs.write_word.Goals as goal

-- eight bytes pasted at once are stored
eight : (xs : List ℕ) (p v : ℕ) → p + 8 ≤ length xs → paste xs p (to_le_bytes w64 v) 8 ≡ store 8 xs p v
unfolding store
eight xs p v h =
    let d2 : v / 65536 ≡ v / 256 / 256 = omega arith in
    let d3 : v / 16777216 ≡ v / 256 / 256 / 256 = omega arith in
    let d4 : v / 4294967296 ≡ v / 256 / 256 / 256 / 256 = omega arith in
    let d5 : v / 1099511627776 ≡ v / 256 / 256 / 256 / 256 / 256 = omega arith in
    let d6 : v / 281474976710656 ≡ v / 256 / 256 / 256 / 256 / 256 / 256 = omega arith in
    let d7 : v / 72057594037927936 ≡ v / 256 / 256 / 256 / 256 / 256 / 256 / 256 = omega arith in
    sym (sets-eq (to_le_bytes w64 v) xs p h) ∙ rw (d2, d3, d4, d5, d6, d7)

pub returns : goal.returns
returns c =
    let a = c.args in
    let xs = a.buf.now in
    let e : c.put_eight.new.buf ≡ store 8 xs (8 * a.k) a.v = c.put_eight.ensures ∙ rw c.to_le_bytes-bytes.ensures (eight xs (8 * a.k) a.v (omega arith)) in
    (ap words_of e ∙ words_store xs a.k a.v (omega arith) (omega arith), ap length e ∙ length_store 8 xs (8 * a.k) a.v)
