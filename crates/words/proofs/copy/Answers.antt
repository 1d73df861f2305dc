-- `words::copy` meets its contract. One loop. Invariant: the first i bytes of src are pasted.
use lib.Seq.{paste, paste-zero, paste-suc}
use lib.ListN.{length, get_or, set}
use native.Mathlib.Numerals.{add-one}
use mathlib.Core.List.{List}
use Prim.Native.Nat.{ℕ, ◌+◌}
use mathlib.Core.Path.{◌≡◌, sym, ap, ◌∙◌}
use native.Mathlib.Omega.{arith}
use Rattle.words.proofs.copy.Goals as goal

pub loop-i-init : goal.loop-i-init
loop-i-init c = paste-zero _ c.args.at c.args.src.now

pub loop-i-preserved : goal.loop-i-preserved
loop-i-preserved c =
    let a = c.args in
    let i = c.loop-i.i in
    ap (λ (xs : List ℕ). set xs (a.at + i) (get_or a.src.now i 0)) c.loop-i.invariant
    ∙ paste-suc a.buf.now a.at a.src.now i 0 (omega arith) (omega arith)
    ∙ ap (λ (n : ℕ). paste a.buf.now a.at a.src.now n) (sym (add-one i))

pub returns : goal.returns
returns c =
    let e : c.loop-i.i ≡ length c.args.src.now = omega arith in
    c.loop-i.invariant ∙ ap (λ (n : ℕ). paste c.args.buf.now c.args.at c.args.src.now n) e
