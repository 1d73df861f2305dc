-- What the promises allow is one outcome.
-- Assumes nothing.
use mathlib.Core.Path.{◌≡◌, refl, sym, ◌∙◌}
use mathlib.Core.Bool.{Bool}
use mathlib.Core.List.{List}
use Prim.Native.Nat.{ℕ}
use Rattle.definitions.specs.declared.Region.{Region}
use Rattle.definitions.specs.declared.paging.Geometry.{Geometry}
use Rattle.ranges.specs.Lists.{says_of, Magnitude, ListValid, Looks}
use Rattle.std.specs.Prelude.{Option, Some, None}

says_injective : (r s : Option ℕ) → says_of r ≡ says_of s → r ≡ s
says_injective (Some a) (Some b) e = cc
says_injective (Some a) None e = cc
says_injective None (Some b) e = cc
says_injective None None e = refl

pub one_lookup : (ws : List ℕ) (g : Region) (o n a : ℕ) (r s : Option ℕ) → Looks ws g o n a r → Looks ws g o n a s → r ≡ s
one_lookup ws g o n a r s p q = says_injective r s (p ∙ sym q)

pub one_list_valid : (ws : List ℕ) (m : Geometry) (g : Region) (r s : Bool) → ListValid ws m g r → ListValid ws m g s → r ≡ s
one_list_valid ws m g r s p q = p ∙ sym q

pub one_magnitude : (o r s : ℕ) → Magnitude o r → Magnitude o s → r ≡ s
one_magnitude o r s p q = p ∙ sym q
