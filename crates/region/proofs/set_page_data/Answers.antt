-- `region::set_page_data` meets its contract: the tests in `load`'s order, each of which refuses or accepts where it holds; past the
-- last the page is copied. No loop.
use Rattle.definitions.specs.Load.{loaded}
use Rattle.definitions.proofs.Load.{load_page}
use lib.Seq.{paste}
use Rattle.definitions.proofs.Ranges.{region_sound}
use Rattle.std.proofs.Common.{◌≡◌, ℕ, length, sym, ap, ap₂, ◌∙◌, arith}
use Rattle.region.proofs.set_page_data.Goals as goal

pub copy-requires : goal.copy-requires
copy-requires c =
    let sound = region_sound _ _ (sym c.valid.ensures ∙ c.if-not-valid.false) in
    omega (arith, sound.gpa, sound.used, c.in-Some.ensures)

pub returns : goal.returns
returns c =
    let a = c.args in
    let at = c.in-Some.ensures in
    let page : length a.page.now ≡ 4096 = c.if-page-ne4096.false in
    ap (loaded 0) (c.copy.ensures ∙ ap₂ (λ (p n : ℕ). paste a.image.now p a.page.now n) at.1 page)
    ∙ load_page _ _ _ _ _ (sym c.valid.ensures ∙ c.if-not-valid.false) (c.if-image-r.false) page at.0 (omega arith) c.if-gpa-ne0.false (omega arith)
