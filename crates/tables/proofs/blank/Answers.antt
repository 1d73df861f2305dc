-- `tables::blank` is the chain's answer: whether each byte is 0.
-- Assumes nothing.
use Rattle.std.proofs.Common.{◌≡◌, ◌≢◌, rules}
use Rattle.std.proofs.lemmas.Iterator.{cases_from_all, YieldsList-from_slice}
use borrow.Author.Tests.{tests}
use Rattle.tables.proofs.Zeros.{zeros}
use Rattle.tables.proofs.blank.Goals as goal

pub returns : goal.returns
returns c =
    zeros _ _
    (cases_from_all _ _ _ (λ x. x ≡ 0) (λ x. x ≢ 0) c.all.ensures.ran (YieldsList-from_slice c.args.bytes.now cc)
    (λ x q k. search (rules, tests)) (λ x q k. search (rules, tests)))
