-- `put_count` meets its contract: the word is copied, and the number put after it. No loop.
-- Assumes nothing.
use Rattle.std.proofs.Common.{refl, arith}
use Rattle.compare_files.specs.Text.{differences, count_line}
use Rattle.compare_files.specs.Meaning.{Puts}
use Rattle.compare_files.proofs.Text.{joins}
use Rattle.compare_files.proofs.page.put_count.Goals as goal

pub returns : goal.returns
unfolding count_line
returns c =
    let copied : Puts 12 c.args.out.now 0 differences c.copy.new.buf 12 =
    record { text = c.copy.ensures; next = refl; short = omega arith } in
    joins (omega arith) copied c.put_decimal.ensures
