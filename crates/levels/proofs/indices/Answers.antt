-- `levels::indices` meets its contract: one call for each level, from level 0 up.
-- Assumes nothing.
use Rattle.std.proofs.Common.{◌≡◌, ℕ, ◌<◌, length, arith, rules}
use Rattle.std.specs.List.{slice_index_or}
use Rattle.std.proofs.lemmas.List.{ext_get_or}
use mathlib.Core.Path.{refl, sym, ◌∙◌}
use Rattle.definitions.specs.Geometry.{index, indices, indices_from}
use Rattle.definitions.proofs.Geometry.{indices_at}
use Rattle.levels.proofs.indices.Goals as goal

each : (c : goal.After-from_fn) (i : ℕ) → i < 5 → slice_index_or c.from_fn.result i 0 ≡ index i c.args.gva
each c i low = let h = c.from_fn.ensures.items.at i 0 low in search rules

length_indices : (a : ℕ) → length (indices a) ≡ 5
unfolding indices indices_from
length_indices a = refl

pub returns : goal.returns
returns c =
    let long : length c.from_fn.result ≡ 5 = c.from_fn.ensures.items.long in
    ext_get_or 0 _ _ (long ∙ sym (length_indices c.args.gva))
    (λ i within. let low : i < 5 = omega arith in each c i low ∙ sym (indices_at c.args.gva i low))
