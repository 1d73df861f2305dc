-- `moved::move_gap` meets its contract: the leaves between the gap and its new place go over it, the j-th stays the j-th. No loop.
-- Assumes nothing.
use native.Mathlib.Omega.{arith}
use Rattle.moved.proofs.Slots.{stays_back, stays_front}
use mathlib.Core.Path.{refl}
use Rattle.moved.proofs.move_gap.Goals as goal

pub returns-then-at-s : goal.returns-then-at-s
returns-then-at-s c =
    let s = c.args.s in
    let e = c.copy_slots.ensures in
    record {
      front = refl;
      count = omega arith;
      long = e.long;
      each = stays_back _ _ _ s.front s.back c.args.at (omega arith) (omega arith) e;
    }

pub returns : goal.returns
returns c =
    let s = c.args.s in
    let e = c.copy_slots-2.ensures in
    record {
      front = refl;
      count = omega arith;
      long = e.long;
      each = stays_front _ _ _ s.front s.back c.args.at (omega arith) c.if-at-s.false c.requires.1 e;
    }
