-- `archwend_set_page_data` meets its contract: it is `region::set_page_data` with the geometry of cr4. No loop.
-- Assumes nothing.
use Rattle.definitions.specs.Load.{Loaded, load}
use Rattle.definitions.specs.declared.paging.Geometry.{Geometry}
use Rattle.archwend.specs.Exports.{region_at}
use mathlib.Core.Path.{ap, ◌∙◌}
use Rattle.archwend.proofs.archwend_set_page_data.Goals as goal

pub returns : goal.returns
returns c =
    let a = c.args in
    let r = region_at a.gpa a.size a.used in
    let e =
    c.set_page_data.ensures ∙ ap (λ (g : Geometry). load g r a.image.now a.page_gpa a.data.now) c.geometry_of-geometry.ensures in
    record { number = c.number.ensures ∙ ap (λ (l : Loaded). l.number) e; loaded = ap (λ (l : Loaded). l.image) e }
