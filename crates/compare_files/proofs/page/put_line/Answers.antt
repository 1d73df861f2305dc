-- `put_line` meets its contract: four fields, put one after the other, are the line. No loop.
-- Assumes nothing.
use Rattle.std.proofs.Common.{arith}
use Rattle.compare_files.specs.Text.{line_of}
use Rattle.compare_files.proofs.Text.{joins}
use Rattle.compare_files.proofs.page.put_line.Goals as goal

pub returns : goal.returns
unfolding line_of
returns c =
    let two = joins (omega arith) c.put_decimal-second.ensures c.put_decimal-third.ensures in
    let three = joins (omega arith) two c.put_hex-fourth.ensures in
    joins (omega arith) three c.put_hex.ensures
