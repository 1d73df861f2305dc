-- `PageTableEntry::set_entry` meets its contract: the kind's fresh word, or its refusal, is what `set_entry` says. No loop.
-- Assumes nothing.
use Rattle.std.proofs.lemmas.Result.{err_from_is_err_and}
use Rattle.entry.proofs.PageTableEntry.set_entry.Goals as goal

pub returns-in_err-self : goal.returns-in_err-self
returns-in_err-self c =
    let p = err_from_is_err_and c.from_residual.result c.from_residual.ensures.1 in
    rw (p.1, p.2) (c.in_err-self.ensures c.args.self.now.entry)

pub returns : goal.returns
returns c = c.in_ok-self.ensures c.args.self.now.entry
