-- `put_hex` meets its contract: `io::hex` spells the number with the fewest digits, which are then put. No loop.
-- Assumes nothing.
use Rattle.std.proofs.Common.{◌≤◌, arith}
use Rattle.compare_files.proofs.Text.{few, puts_field}
use Rattle.compare_files.proofs.page.put_hex.Goals as goal

pub returns : goal.returns
returns c =
    let a = c.args in
    let f = c.hex-k.ensures in
    let k = c.hex-k.result in
    let few_digits : k ≤ 16 = few 16 (omega arith) 16 a.n k (omega arith) (omega arith) f.len in
    puts_field 16 a.n k 17 a.end _ (omega arith) f.len f.digits (omega (arith, few_digits, f.in_bounds.1)) c.put_text.ensures
