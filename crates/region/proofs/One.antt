-- What the promises allow is one outcome.
-- Assumes nothing.
use Rattle.std.proofs.Common.{◌≡◌, ℕ, Bool, List, sym, refl, ap, ◌∙◌, arith}
use Rattle.definitions.specs.declared.Region.{Region}
use Rattle.definitions.specs.declared.paging.Geometry.{Geometry}
use Rattle.definitions.specs.Load.{Loaded}
use Rattle.definitions.specs.Refusals.{number_in}
use Rattle.definitions.specs.declared.refusals.Error.{Error}
use Rattle.definitions.proofs.Numbering.{numbered, one_error}
use Rattle.std.specs.Prelude.{Option, Result, Ok, Err}
use Rattle.region.specs.Meaning.{Valid, OffsetValid, MovedBy, GivesTable, Loads}

one_answer : (r s : Result (Unit {0}) Error) → number_in r ≡ number_in s → r ≡ s
one_answer (Ok a) (Ok b) e = refl
one_answer (Ok a) (Err f) e = absurd (omega (arith, numbered f))
one_answer (Err d) (Ok b) e = absurd (omega (arith, numbered d))
one_answer (Err d) (Err f) e = ap (λ (x : Error). Err x) (one_error d f e)

pub one_valid : (g : Geometry) (r : Region) (v w : Bool) → Valid g r v → Valid g r w → v ≡ w
one_valid g r v w p q = p ∙ sym q

pub one_offset_valid : (g : Geometry) (r : Region) (o : ℕ) (v w : Bool) → OffsetValid g r o v → OffsetValid g r o w → v ≡ w
one_offset_valid g r o v w p q = p ∙ sym q

pub one_moved_by : (r : Region) (o : ℕ) (m n : Region) → MovedBy r o m → MovedBy r o n → m ≡ n
one_moved_by r o m n p q = p ∙ sym q

pub one_table_index : (r : Region) (a : ℕ) (t u : Option ℕ) → GivesTable r a t → GivesTable r a u → t ≡ u
one_table_index r a t u p q = p ∙ sym q

-- the answer, and the image at exit
module _ (g : Geometry) (r : Region) (image : List ℕ) (gpa : ℕ) (page : List ℕ) where
  pub one_load : (a b : Result (Unit {0}) Error) (xs ys : List ℕ) → Loads g r image gpa page a xs → Loads g r image gpa page b ys → (a ≡ b) × (xs ≡ ys)
  one_load a b xs ys p q = (one_answer a b (ap (λ (l : Loaded). l.number) (p ∙ sym q)), ap (λ (l : Loaded). l.image) (p ∙ sym q))
