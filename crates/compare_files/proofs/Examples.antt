-- The document's example: the base image against its output is printed as three lines.
-- Assumes nothing.
use Rattle.std.proofs.Common.{◌≡◌, [], ◌∷◌, ◌++◌, refl}
use Rattle.definitions.specs.Words.{blank, put}
use Rattle.definitions.specs.Compare.{changes_from, changes}
use Rattle.definitions.specs.Examples.{base, moved_base}
use Rattle.compare_files.specs.Text.{places_to, numeral, field, line_of, lines, count_line, differences, space, newline, printed}

-- §12.31: `differences 2`, `2 1 2000e3 0`, `2 2 0 4000e3`
pub example : printed 0x3000 base moved_base
    ≡ differences ++ 50 ∷ newline
    ∷ 50 ∷ space ∷ 49 ∷ space ∷ 50 ∷ 48 ∷ 48 ∷ 48 ∷ 101 ∷ 51 ∷ space ∷ 48 ∷ newline
    ∷ 50 ∷ space ∷ 50 ∷ space ∷ 48 ∷ space ∷ 52 ∷ 48 ∷ 48 ∷ 48 ∷ 101 ∷ 51 ∷ newline ∷ []
unfolding places_to numeral field line_of lines count_line printed changes_from changes base moved_base blank put
example = refl
