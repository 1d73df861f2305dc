-- `put_decimal` meets its contract: `io::decimal` spells the number with the fewest digits, which are then put. No loop.
-- Assumes nothing.
use Rattle.std.proofs.Common.{◌≤◌, arith}
use Rattle.compare_files.proofs.Text.{few, puts_field}
use Rattle.compare_files.proofs.page.put_decimal.Goals as goal

pub returns : goal.returns
returns c =
    let a = c.args in
    let f = c.decimal-k.ensures in
    let k = c.decimal-k.result in
    let few_digits : k ≤ 20 = few 10 (omega arith) 20 a.n k (omega arith) (omega arith) f.len in
    puts_field 10 a.n k 21 a.end _ (omega arith) f.len f.digits (omega (arith, few_digits, f.in_bounds.1)) c.put_text.ensures
