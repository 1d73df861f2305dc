-- `moved::find` meets its contract: if the last leaf before the gap is not lower the search is before the gap; else the place is
-- the gap, if no leaf stands after it or the first one there is higher; else the search is after the gap. No loop.
-- `low_here` is what all answers past the first test have in common.
-- Assumes nothing.
use Rattle.moved.proofs.Finding.{Low, low_last, low_none, sorted_front, sorted_back, finds_front, finds_free, gap_none, gap_between, gap_back, found_back}
use borrow.Author.Rules.{rules}
use Rattle.moved.proofs.find.Goals as goal
use Rattle.moved.proofs.find.Goals.{Else-back-eq0, then-front-gt0+else-key-last, else-front-gt0}

low_here : (c : Else-back-eq0) → Low c.args.scratch.now c.args.s c.args.key
low_here c =
    elim c.if-front-gt0.branch [
      | then-front-gt0+else-key-last w ↦ low_last c.requires w.if-key-last.false
      | else-front-gt0 w ↦ low_none c.requires w.if-front-gt0.false
    ]

-- ---- the goals
pub search-requires : goal.search-requires
search-requires c = (search rules, search rules, sorted_front c.requires)

pub returns-then-key-last : goal.returns-then-key-last
returns-then-key-last c = finds_front c.requires c.search.result (search rules) (search rules) c.search.ensures

pub returns-then-back-eq0 : goal.returns-then-back-eq0
returns-then-back-eq0 c =
    let low : Low c.args.scratch.now c.args.s c.args.key =
    elim c.if-front-gt0.branch [
      | then-front-gt0+else-key-last w ↦ low_last c.requires w.if-key-last.false
      | else-front-gt0 w ↦ low_none c.requires w.if-front-gt0.false
    ] in
    finds_free c.requires (gap_none c.requires low c.if-back-eq0.true)

pub returns-then-key-next : goal.returns-then-key-next
returns-then-key-next c =
    let low = low_here (goal.at.returns-then-key-next c).Else-back-eq0 in
    finds_free c.requires (gap_between c.requires low c.if-key-next.true)

pub search-requires-2 : goal.search-requires-2
search-requires-2 c = (search rules, search rules, sorted_back c.requires)

pub returns-in_err-slot : goal.returns-in_err-slot
returns-in_err-slot c = rw c.from_residual.ensures (found_back c.requires c.in_err-slot.ensures)

pub returns : goal.returns
returns c =
    let low = low_here (goal.at.returns c).Else-back-eq0 in
    finds_free c.requires (gap_back c.requires low c.in_ok-slot.ensures)
