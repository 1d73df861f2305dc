-- `put_text` meets its contract: the text is copied, and a byte stored after it. No loop.
-- Assumes nothing.
use Rattle.std.proofs.Common.{◌+◌, length, refl, arith, rules}
use Rattle.compare_files.specs.Meaning.{Puts}
use Rattle.compare_files.proofs.Text.{puts_byte, joins}
use Rattle.compare_files.proofs.page.put_text.Goals as goal

pub returns : goal.returns
returns c =
    let a = c.args in
    let n = length a.text.now in
    let copied : Puts n a.out.now a.at a.text.now c.copy.new.buf (a.at + n) =
    record { text = c.copy.ensures; next = refl; short = omega arith } in
    joins (omega arith) copied (puts_byte c.copy.new.buf (a.at + n) a.end (search rules))
