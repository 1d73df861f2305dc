-- What the promises allow is one outcome.
-- Assumes nothing.
use mathlib.Core.Path.{◌≡◌, sym, ap, ◌∙◌}
use mathlib.Core.List.{List}
use Prim.Native.Nat.{ℕ}
use native.Mathlib.Omega.{arith}
use Rattle.std.specs.Prelude.{Result, Ok, Err}
use Rattle.definitions.specs.Entry.{Answer, mapped_size, level_index}
use Rattle.definitions.specs.Refusals.{number_of}
use Rattle.definitions.specs.declared.refusals.Error.{Error}
use Rattle.definitions.proofs.Numbering.{numbered, one_error}
use Rattle.levels.specs.Answers.{answer_of, Sized, Indexed, IndexedAll}

answer_injective : (r s : Result ℕ Error) → answer_of r ≡ answer_of s → r ≡ s
answer_injective (Ok a) (Ok b) e = ap Ok (ap (λ (x : Answer). x.word) e)
answer_injective (Ok a) (Err f) e =
    let n = numbered f in
    let z : ◌≡◌ {A = ℕ} 0 (number_of f) = ap (λ (x : Answer). x.number) e in
    absurd (omega arith)
answer_injective (Err d) (Ok b) e =
    let n = numbered d in
    let z : ◌≡◌ {A = ℕ} (number_of d) 0 = ap (λ (x : Answer). x.number) e in
    absurd (omega arith)
answer_injective (Err d) (Err f) e = ap Err (one_error d f (ap (λ (x : Answer). x.number) e))

-- two answers with one meaning
pub one_answer : (x : Answer) (r s : Result ℕ Error) → answer_of r ≡ x → answer_of s ≡ x → r ≡ s
one_answer x r s p q = answer_injective r s (p ∙ sym q)

pub one_mapping_size : (l : ℕ) (r s : Result ℕ Error) → Sized l r → Sized l s → r ≡ s
one_mapping_size l = one_answer (mapped_size l)

pub one_index : (a l : ℕ) (r s : Result ℕ Error) → Indexed a l r → Indexed a l s → r ≡ s
one_index a l = one_answer (level_index l a)

pub one_indices : (a : ℕ) (r s : List ℕ) → IndexedAll a r → IndexedAll a s → r ≡ s
one_indices a r s p q = p ∙ sym q
