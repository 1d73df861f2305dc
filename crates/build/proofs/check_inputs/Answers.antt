-- `build::check_inputs` meets its contract: seven checks in a row, in `start`'s order, each of which refuses where it fails
-- (`Checking`). No loop.
-- Assumes nothing.
use Rattle.build.proofs.Checking.{bad_region, bad_image, bad_output, bad_root, bad_offset, bad_ranges, free_root, all_good}
use Rattle.definitions.proofs.Cr4.{geometry_sound}
use Rattle.definitions.proofs.Geometry.{SoundGeometry}
use Rattle.std.proofs.Common.{sym, subst, arith}
use Rattle.build.proofs.check_inputs.Goals as goal

pub returns-then-not-valid : goal.returns-then-not-valid
returns-then-not-valid c n =
    bad_region c.args.plan c.args.cpu.cr3 c.args.cpu.cr4 c.args.ranges.now c.args.image.now c.args.output_length n c.requires
    c.valid.ensures c.if-not-valid.true c.into.ensures

pub returns-then-image-r : goal.returns-then-image-r
returns-then-image-r c n =
    bad_image c.args.plan c.args.cpu.cr3 c.args.cpu.cr4 c.args.ranges.now c.args.image.now c.args.output_length n c.requires
    c.valid.ensures c.if-not-valid.false c.if-image-r.true c.into-then-image-r.ensures

pub returns-then-output_length-r : goal.returns-then-output_length-r
returns-then-output_length-r c n =
    bad_output c.args.plan c.args.cpu.cr3 c.args.cpu.cr4 c.args.ranges.now c.args.image.now c.args.output_length n c.requires
    c.valid.ensures c.if-not-valid.false c.if-image-r.false c.if-output_length-r.true c.into-then-output_length-r.ensures

pub returns-in_default : goal.returns-in_default
returns-in_default c n =
    bad_root c.args.plan c.args.cpu.cr3 c.args.cpu.cr4 c.args.ranges.now c.args.image.now c.args.output_length n c.requires
    c.valid.ensures c.if-not-valid.false c.if-image-r.false c.if-output_length-r.false c.in_default.ensures c.into-in_default.ensures

pub returns-then-not-offset_valid : goal.returns-then-not-offset_valid
returns-then-not-offset_valid c n =
    bad_offset c.args.plan c.args.cpu.cr3 c.args.cpu.cr4 c.args.ranges.now c.args.image.now c.args.output_length n c.requires
    c.valid.ensures c.if-not-valid.false c.if-image-r.false c.if-output_length-r.false
    c.in-Some.ensures c.offset_valid.ensures c.if-not-offset_valid.true c.into-then-not-offset_valid.ensures

pub returns-then-not-list_valid : goal.returns-then-not-list_valid
returns-then-not-list_valid c n =
    bad_ranges c.args.plan c.args.cpu.cr3 c.args.cpu.cr4 c.args.ranges.now c.args.image.now c.args.output_length n c.requires
    c.valid.ensures c.if-not-valid.false c.if-image-r.false c.if-output_length-r.false
    c.in-Some.ensures c.offset_valid.ensures c.if-not-offset_valid.false c.list_valid.ensures c.if-not-list_valid.true
    c.into-then-not-list_valid.ensures

pub overflow_add-geometry : goal.overflow_add-geometry
overflow_add-geometry c = omega (arith, (subst SoundGeometry (sym c.requires) (geometry_sound c.args.cpu.cr4)).top)

pub returns-then-r-root : goal.returns-then-r-root
returns-then-r-root c n =
    free_root c.args.plan c.args.cpu.cr3 c.args.cpu.cr4 c.args.ranges.now c.args.image.now c.args.output_length n c.requires
    c.valid.ensures c.if-not-valid.false c.if-image-r.false c.if-output_length-r.false
    c.in-Some.ensures c.offset_valid.ensures c.if-not-offset_valid.false c.list_valid.ensures c.if-not-list_valid.false
    c.if-r-root.true c.at.ensures

pub returns : goal.returns
returns c n =
    all_good c.args.plan c.args.cpu.cr3 c.args.cpu.cr4 c.args.ranges.now c.args.image.now c.args.output_length n c.requires
    c.valid.ensures c.if-not-valid.false c.if-image-r.false c.if-output_length-r.false
    c.in-Some.ensures c.offset_valid.ensures c.if-not-offset_valid.false c.list_valid.ensures c.if-not-list_valid.false c.if-r-root.false
