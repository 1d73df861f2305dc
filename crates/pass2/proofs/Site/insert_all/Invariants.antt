-- `pass2::Site::insert_all` meets its contract. One loop over the leaves.
-- Invariant: `Left`: what is left from leaf i on gives the whole, and the counts and the bytes are fit to go on.
-- Assumes nothing.
use Rattle.pass2.proofs.All.{Left}
use Rattle.pass2.proofs.Site.insert_all.Given as goal

abbrev pub invariant-loop-i : goal.invariant-loop-i
invariant-loop-i l =
    Left l.scratch l.self.geometry l.self.region l.self.root l.count l.initial.s l.initial.out l.out l.s l.i
