-- `Guide::visit_entry` and `Guide::walk_table` meet their contracts; see Invariants.antt. What holds of the entry that a turn of
-- `walk_table` reads is said once, of plain values; then come the goals of both, those of `walk_table` by what the task at the entry
-- is.
-- Assumes nothing.
use Rattle.pass1.proofs.Walking.{lies_down, inner, lies_with, lies_low, at_hand, skip_visits, stored_visits, refused_visits, unfinished}
use Rattle.pass1.proofs.Walking.{visits_done, visits_refused, visits_down, entry_at, begin, over, again, stops}
use Rattle.pass1.specs.Walks.{spot_in, Asked, AtHand, WalkFits}
use Rattle.pass1.specs.declared.Plan.{Plan}
use Rattle.pass1.specs.declared.Spot.{Spot}
use Rattle.pass1.specs.declared.Walk.{Walk}
use Rattle.definitions.specs.Words.{slot, words_of}
use Rattle.definitions.specs.Geometry.{span}
use Rattle.entry.specs.Kinds.{leaf_field}
use Rattle.entry.proofs.Bits.{leaf_mask}
use Rattle.std.proofs.Common.{◌≡◌, ℕ, ◌+◌, ◌*◌, ◌^◌, ◌<◌, ◌≤◌, List, sym, refl, ap, ◌∙◌, arith, rules}
use Rattle.std.proofs.lemmas.Grind.{common_steps}
use Rattle.std.specs.Prelude.{None, Some, Ok}
use Rattle.definitions.specs.declared.Refusal.{Refusal}
use Rattle.std.proofs.lemmas.Result.{err_from_is_err_and, MatchResult-weaker}
use Rattle.pass1.proofs.Guide.+visit_entry_walk_table.Goals.{walk_table-in-Skip, walk_table-in-Leaf+in_ok-more-in-Leaf, walk_table-in-Table+in_ok-walk-in-Table}
use Rattle.pass1.proofs.Guide.+visit_entry_walk_table.Goals as goal

-- ---- a turn of walk_table, in table t of level l, with what an entry maps in n
module _ {b : ℕ} {xs ws : List ℕ} {p : Plan} {t l a : ℕ} {w : Walk} (pre : WalkFits b xs ws p t l a w)
    {n : ℕ} (size : n ≡ span l) where
  -- no sum over the table's addresses wraps
  sums : a + 512 * n ≤ 2 ^ 63
  sums = omega (arith, size, lies_low _ _ _ pre.asked.plan.geometry pre.lies)

  module _ {i : ℕ} (h : i < 512) where
    product : i * n < 2 ^ 64
    product = omega (arith, sums, inner i n h)

    sum : a + i * n < 2 ^ 64
    sum = omega (arith, sums, inner i n h)

  -- what was asked still holds of as many bytes
  asked : {now : ℕ} → now ≡ b → Asked now ws p
  asked bytes = record { plan = pre.asked.plan; list = pre.asked.list; used = omega (arith, bytes, pre.asked.used) }

  module _ (out : List ℕ) (i : ℕ) {x : Spot} (read : x ≡ spot_in (words_of out) (slot t i) l n (a + i * n)) where
    -- the entry that was read is entry i
    at : x ≡ entry_at (words_of out) t l a i
    at = read ∙ ap (λ (k : ℕ). spot_in (words_of out) (slot t i) l k (a + i * k)) size

    -- and is at hand
    hand : {now : ℕ} → now ≡ b → i < 512 → AtHand now p.geometry x
    hand bytes h =
        let lies = lies_with _ _ _ _ _ size pre.lies h in
        let used = asked bytes in
        at_hand _ _ _ (words_of out) _ _ _ _ read (omega (arith, pre.table, used.used, h)) pre.level size lies

-- ---- the goals of visit_entry: what is opened, and the table that it points to, one level down
pub visit_entry-walk_table-requires : goal.visit_entry-walk_table-requires
visit_entry-walk_table-requires t c =
    let pre = c.requires in
    let is : c.open_table.result ≡ Ok (Some c.in-Some.table) = grind (arith, common_steps) in
    let opens = rw is at c.open_table.ensures in
    let fits = opens.fits in
    let level = pre.hand.level in
    let used = pre.asked.used in (
      omega (arith, c.decreases, fits.1),
      record {
        asked = record { plan = pre.asked.plan; list = pre.asked.list; used = omega arith };
        table = fits.0;
        level = omega arith;
        lies = lies_down _ _ _ fits.1 pre.hand.lies;
        held = pre.held;
      },
    )

pub visit_entry-returns-in-None : goal.visit_entry-returns-in-None
visit_entry-returns-in-None t c =
    let is : c.open_table.result ≡ Ok None = grind (arith, common_steps) in
    visits_done _ _ _ _ _ _ _ _ (rw is at c.open_table.ensures) c.requires.held

pub visit_entry-returns-in_err-opened : goal.visit_entry-returns-in_err-opened
visit_entry-returns-in_err-opened t c =
    let p = err_from_is_err_and c.from_residual.result c.from_residual.ensures.1 in
    let Beside : Refusal → Type 0 = λ r. c.in_err-opened.field-0.0 ≡ unfinished r c.args.walk.store in
    let cases =
    MatchResult-weaker c.open_table.result {Q' = Beside} c.in_err-opened.ensures.cases (λ t h. h) (λ r h. search rules) in
    rw (p.1, p.2) (visits_refused _ _ _ _ _ _ _ _ _ c.open_table.ensures c.requires.held cases)

pub visit_entry-returns-in-Some : goal.visit_entry-returns-in-Some
visit_entry-returns-in-Some t c =
    let is : c.open_table.result ≡ Ok (Some c.in-Some.table) = grind (arith, common_steps) in
    let opens = rw is at c.open_table.ensures in
    visits_down _ _ _ _ _ _ _ _ _ opens _ _ _ c.walk_table.ensures

-- ---- the goals of walk_table
pub walk_table-loop-i-init : goal.walk_table-loop-i-init
walk_table-loop-i-init t c = begin _ _ _ _ _ _ _ _ c.requires.held

pub walk_table-overflow_mul-i : goal.walk_table-overflow_mul-i
walk_table-overflow_mul-i t c =
    let h = product c.requires c.span_of-size.ensures.0 c.loop-i-test.true in
    search rules

pub walk_table-overflow_add-node : goal.walk_table-overflow_add-node
walk_table-overflow_add-node t c =
    let h = sum c.requires c.span_of-size.ensures.0 c.loop-i-test.true in
    search rules

pub walk_table-task_at-requires : goal.walk_table-task_at-requires
walk_table-task_at-requires t c =
    let k = c.requires.asked in
    let at =
    hand c.requires c.span_of-size.ensures.0 c.loop-i.out c.loop-i.i c.spot_at-spot.ensures
    c.loop-i.invariant.bytes
    c.loop-i-test.true in
    record { plan = k.plan; list = k.list; level = at.level; size = at.size; lies = at.lies }

-- a leaf that moves
pub walk_table-move_leaf-requires : goal.walk_table-move_leaf-requires
walk_table-move_leaf-requires t c =
    let inv = c.loop-i.invariant in
    let of = c.leaf_field-field.ensures ∙ sym (ap (λ (x : Spot). leaf_field x.level) c.spot_at-spot.ensures) in
    record {
      geometry = c.requires.asked.plan.geometry;
      hand = hand c.requires c.span_of-size.ensures.0 c.loop-i.out c.loop-i.i c.spot_at-spot.ensures
          inv.bytes c.loop-i-test.true;
      low = c.in-Leaf.ensures.0;
      field = leaf_mask _ _ c.in-Leaf.ensures.0 of;
      held = inv.held;
    }

pub walk_table-returns-in_err-more-in-Leaf : goal.walk_table-returns-in_err-more-in-Leaf
walk_table-returns-in_err-more-in-Leaf t c =
    let read = at c.requires c.span_of-size.ensures.0 c.loop-i.out c.loop-i.i c.spot_at-spot.ensures in
    let p = err_from_is_err_and c.from_residual.result c.from_residual.ensures.1 in
    let Beside : Refusal → Type 0 = λ r. c.in_err-more-in-Leaf.field-0.0 ≡ unfinished r c.loop-i.walk.store in
    let cases =
    MatchResult-weaker c.move_leaf.result {Q' = Beside} c.in_err-more-in-Leaf.ensures.cases (λ t h. h) (λ r h. search rules) in
    let visits = refused_visits _ _ _ _ _ _ _ c.in-Leaf.ensures _ _ _ c.move_leaf.ensures cases in
    rw (p.1, p.2) (stops c.loop-i.invariant c.loop-i-test.true read visits refl)

-- a pointer, and the table that it points to
pub walk_table-visit_entry-requires : goal.walk_table-visit_entry-requires
walk_table-visit_entry-requires t c =
    let inv = c.loop-i.invariant in (
      omega (arith, c.decreases, ap (λ (x : Spot). x.level) c.spot_at-spot.ensures),
      record {
        asked = asked c.requires c.span_of-size.ensures.0 inv.bytes;
        hand = hand c.requires c.span_of-size.ensures.0 c.loop-i.out c.loop-i.i c.spot_at-spot.ensures
            inv.bytes c.loop-i-test.true;
        pointer = c.in-Table.ensures;
        held = inv.held;
      },
    )

pub walk_table-returns-in_err-walk-in-Table : goal.walk_table-returns-in_err-walk-in-Table
walk_table-returns-in_err-walk-in-Table t c =
    let read = at c.requires c.span_of-size.ensures.0 c.loop-i.out c.loop-i.i c.spot_at-spot.ensures in
    let at = c.from_residual-in_err-walk-in-Table in
    let p = err_from_is_err_and at.result at.ensures.1 in
    rw (p.1, p.2) (stops c.loop-i.invariant c.loop-i-test.true read c.in_err-walk-in-Table.ensures refl)

pub walk_table-loop-i-preserved : goal.walk_table-loop-i-preserved
walk_table-loop-i-preserved t c =
    let inv = c.loop-i.invariant in
    let read = at c.requires c.span_of-size.ensures.0 c.loop-i.out c.loop-i.i c.spot_at-spot.ensures in
    let long = c.match-task_at.auto.out in
    elim c.match-task_at.branch [
      | walk_table-in-Skip w ↦ (
          let visits = skip_visits _ _ _ _ _ _ w.in-Skip.ensures inv.held in
          rw (w.scratch-is, w.walk-is) (again inv c.loop-i-test.true read visits refl _ (ap words_of (sym w.out-is)) long)
          )
      | walk_table-in-Leaf+in_ok-more-in-Leaf w ↦ (
          let is : w.move_leaf.result ≡ Ok w.in_ok-more-in-Leaf.more = grind (arith, common_steps) in
          let visits = stored_visits _ _ _ _ _ _ _ w.in-Leaf.ensures _ _ _ (rw is at w.move_leaf.ensures) in
          rw (w.scratch-is, w.walk-is) (again inv c.loop-i-test.true read visits refl _ (ap words_of (sym w.out-is)) long)
          )
      | walk_table-in-Table+in_ok-walk-in-Table w ↦ (
          let visits = w.in_ok-walk-in-Table.ensures in
          rw (w.scratch-is, w.walk-is) (again inv c.loop-i-test.true read visits refl _ (ap words_of (sym w.out-is)) long)
          )
    ]

pub walk_table-returns : goal.walk_table-returns
walk_table-returns t c = over c.loop-i.invariant c.loop-i-test.false
