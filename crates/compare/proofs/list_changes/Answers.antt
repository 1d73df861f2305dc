-- `compare::list_changes` meets its contract. One loop over the words of both images.
use Rattle.definitions.specs.Compare.{changes}
use Rattle.compare.proofs.Come.{begins, same, more, stops, ends}
use mathlib.Core.Path.{refl, sym, ◌∙◌}
use Rattle.definitions.proofs.Compare.{comparable_iff, compare_refused, compare_short}
use Prim.Native.Nat.{◌/◌}
use lib.ListN.{length}
use native.Mathlib.Omega.{arith}
use Rattle.compare.proofs.list_changes.Goals.{then-before-after+else-list-count, else-before-after}
use Rattle.compare.proofs.list_changes.Goals as goal

pub returns-then-not-lengths_valid : goal.returns-then-not-lengths_valid
returns-then-not-lengths_valid c =
    (compare_refused _ _ _ _ _ (sym c.lengths_valid.ensures ∙ c.if-not-lengths_valid.true), refl)

pub loop-k-init : goal.loop-k-init
loop-k-init c = begins _ _ _ _ refl

pub read_word-before-requires : goal.read_word-before-requires
read_word-before-requires c =
    let w = (comparable_iff _ _).0 (sym c.lengths_valid.ensures ∙ c.if-not-lengths_valid.false) in
    omega (arith, w.equal)

pub returns-then-list-count : goal.returns-then-list-count
unfolding changes
returns-then-list-count c =
    let ok = sym c.lengths_valid.ensures ∙ c.if-not-lengths_valid.false in
    let i = c.loop-k.invariant in
    let newer = c.args.newer.now in
    let short = stops _ _ _ i c.read_word-before.ensures c.read_word-after.ensures c.if-before-after.true (omega (arith, i.long))
    (length newer / 8) (omega arith) in
    (compare_short _ _ _ _ _ ok short, i.long)

pub loop-k-preserved : goal.loop-k-preserved
loop-k-preserved c =
    let i = c.loop-k.invariant in
    elim c.if-before-after.branch [
      | then-before-after+else-list-count w ↦ (
          let put = more _ _ _ i c.read_word-before.ensures c.read_word-after.ensures w.if-before-after.true
          (omega (arith, i.long)) w.put_change.ensures in
          rw (w.list-is, w.count-is) put
          )
      | else-before-after w ↦ rw (w.list-is, w.count-is)
          (same _ _ _ i c.read_word-before.ensures c.read_word-after.ensures w.if-before-after.false)
    ]

pub returns : goal.returns
unfolding changes
returns c =
    let ok = sym c.lengths_valid.ensures ∙ c.if-not-lengths_valid.false in
    let l = c.loop-k in let e = ends _ _ _ l.invariant _ (omega arith) in
    (ok, e.0, e.1, e.2)
