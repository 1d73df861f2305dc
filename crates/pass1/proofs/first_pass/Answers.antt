-- `pass1::first_pass` meets its contract: the root is marked, nothing is taken out or refused yet, and `walk_table` does the rest.
-- No loop.
-- Assumes nothing.
use Rattle.pass1.proofs.Walking.{lies_root, first_is}
use Rattle.reached.proofs.Laws.{marked_low}
use Rattle.definitions.specs.Words.{Tables, mark}
use Rattle.moved.proofs.Leaves.{empty_held}
use Rattle.std.proofs.Common.{ap, ◌∙◌, ◌<◌, arith}
use Rattle.pass1.proofs.first_pass.Goals as goal

pub walk_table-requires : goal.walk_table-requires
walk_table-requires c =
    let pre = c.requires in
    record {
      asked = pre.0;
      table = pre.1;
      level = omega arith;
      lies = lies_root _;
      held = empty_held _ _ c.empty.ensures;
    }

pub returns : goal.returns
returns c =
    let old = c.requires.0.plan.old in
    let few : c.args.root < 512 = omega (arith, c.requires.1, old.fits, old.most) in
    let marked = c.mark.ensures ∙ marked_low _ _ few ∙ ap (λ (s : Tables). mark s c.args.root) c.none-reached.ensures in
    first_is _ _ _ _ _ _ _ _ _ marked c.empty.ensures c.walk_table.ensures
