-- `build::relocate` meets its contract: the checks refuse, or the image is copied, zeros follow it, and the passes refuse or accept.
-- No loop.
-- Assumes nothing.
use Rattle.build.proofs.Ending.{image_fits, ready_with}
use Rattle.definitions.proofs.Build.{build_checks}
use Rattle.definitions.specs.Build.{job_of}
use Rattle.std.proofs.Common.{length, ◌≤◌, arith}
use Rattle.std.proofs.lemmas.Result.{err_from_is_err_and}
use Rattle.build.proofs.relocate.Goals as goal

pub returns-in_err-root : goal.returns-in_err-root
returns-in_err-root c =
    let p = err_from_is_err_and c.from_residual.result c.from_residual.ensures.1 in
    let a = c.args in
    let j = job_of a.r a.cpu.cr3 a.cpu.cr4 a.table_offset a.ranges.now a.image.now (length a.out.now) (length a.scratch.now) in
    rw (p.1, p.2) (build_checks j _ _ (c.in_err-root.ensures (length a.scratch.now)))

pub copy-requires : goal.copy-requires
unfolding job_of
copy-requires c =
    let h : length c.args.image.now ≤ length c.args.out.now = image_fits _ (c.in_ok-root.ensures (length c.args.scratch.now)).0 in
    omega arith

pub passes-requires : goal.passes-requires
passes-requires c =
    let good = c.in_ok-root.ensures (length c.args.scratch.now) in
    (_, ready_with _ _ _ _ _ _ _ _ _ _ c.geometry_of.ensures c.moved_by.ensures good.0 _ good.1 _ _ c.copy.ensures c.fill_from.ensures)

pub returns : goal.returns
returns c =
    let good = c.in_ok-root.ensures (length c.args.scratch.now) in
    c.passes.ensures _
    (ready_with _ _ _ _ _ _ _ _ _ _ c.geometry_of.ensures c.moved_by.ensures good.0 _ good.1 _ _ c.copy.ensures c.fill_from.ensures)
