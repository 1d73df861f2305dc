-- `archwend_build` meets its contract: it is `build::build`, and the parts of its answer are listed in the header's order. No loop.
-- Assumes nothing.
use mathlib.Core.Path.{ap}
use Rattle.definitions.specs.Build.{job_of}
use Rattle.archwend.specs.Exports.{report_words}
use Rattle.archwend.proofs.archwend_build.Goals as goal

pub returns-in-Ok : goal.returns-in-Ok
unfolding job_of
returns-in-Ok c =
    let b = c.in-Ok.ensures in
    record { reported = ap report_words b.report; built = b.output; cleared = b.scratch }

pub returns-in-Err : goal.returns-in-Err
unfolding job_of
returns-in-Err c =
    let b = c.in-Err.ensures in
    record { reported = rw c.number.ensures (ap report_words b.report); built = b.output; cleared = b.scratch }
