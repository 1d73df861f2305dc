-- `pass1::spot_at` meets its contract: the word that is read is the entry, the rest is as given. No loop.
-- Assumes nothing.
use Rattle.std.proofs.Common.{ℕ, ap}
use Rattle.pass1.proofs.spot_at.Goals as goal

pub returns : goal.returns
returns c =
    let a = c.args in
    ap (λ (e : ℕ). record { word = a.word; entry = e; level = a.level; size = a.size; va = a.va }) c.read_word-entry.ensures
