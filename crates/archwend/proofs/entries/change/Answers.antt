-- `change` meets its contract: what the operation left is left, and its number is returned. No loop.
-- Assumes nothing.
use Rattle.std.proofs.Common.{rules}
use mathlib.Core.Path.{ap, ◌∙◌}
use Rattle.definitions.specs.Entry.{Answer}
use Rattle.archwend.proofs.entries.change.Goals as goal

pub returns : goal.returns
returns g c a told =
    let e = told c.operation-answer.result c.operation-answer.new.arg2 (search rules) in
    record { number = c.number.ensures ∙ ap (λ (x : Answer). x.number) e; word_is = ap (λ (x : Answer). x.word) e }
