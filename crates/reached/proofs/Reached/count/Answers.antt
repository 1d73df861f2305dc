-- `Reached::count` meets its contract: the chain sums the ones of the words, and `counted` ties that sum to the tables.
use Rattle.std.proofs.Common.{rules, tests, ◌≡◌, ◌≤◌, length, arith}
use Rattle.std.specs.List.{sum_by}
use Rattle.std.specs.Int.Count.{ones}
use Rattle.std.proofs.lemmas.Iterator.{YieldsList-from_slice}
use Rattle.std.proofs.lemmas.Iterator.Adapters.{fits_from_length, at_most_from_yields_List}
use mir.Syntax.{w64}
use Rattle.definitions.proofs.Arrays.{array_fits}
use Rattle.reached.proofs.Laws.{counted}
use Rattle.reached.proofs.Reached.count.Goals as goal

pub sum-requires-clause-fits : goal.sum-requires-clause-fits
sum-requires-clause-fits c =
    let w = c.args.self.words in
    let n : length w ≤ 8 = omega arith in
    fits_from_length _ _ 8 _ (at_most_from_yields_List (YieldsList-from_slice w cc) n) c.map.ensures.closure (omega arith)
    (λ x r q k. search (rules, tests))

pub returns : goal.returns
returns c =
    let w = c.args.self.words in
    let n : length w ≡ 8 = omega arith in
    let total : c.sum.result ≡ sum_by ones w = search rules in
    rw total (counted w 8 n (array_fits w64 8 w _ c.well_formed.0.1.1.0))
