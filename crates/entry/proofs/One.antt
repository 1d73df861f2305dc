-- What the promise of each public operation allows is one outcome.
-- Assumes nothing.
use mathlib.Core.Path.{◌≡◌, refl, sym, ap, ◌∙◌}
use mathlib.Core.Bool.{Bool}
use Prim.Native.Nat.{ℕ}
use native.Mathlib.Omega.{arith}
use Rattle.std.specs.Prelude.{Option, Result, Ok, Err}
use Rattle.definitions.specs.Entry.{Answer, set_address, set_leaf_address, Reading}
use Rattle.definitions.specs.Refusals.{number_of, number_in}
use Rattle.definitions.specs.declared.refusals.Error.{Error}
use Rattle.definitions.proofs.Numbering.{numbered, one_error}
use Rattle.entry.specs.Kinds.{set_entry, answer_in, reading_of}
use Rattle.entry.specs.Kinds.{SetsEntry, TellsPresent, TellsLarge, GivesAddress, SetsAddress, GivesLeafAddress, SetsLeafAddress, Clears}
use Rattle.entry.specs.declared.PageTableEntryType.{PageTableEntryType}
use Rattle.entry.specs.declared.PageTableEntry.{PageTableEntry}

-- an entry is its word
one_word : (y z : PageTableEntry) → y.entry ≡ z.entry → y ≡ z
one_word y z e = ap (λ (n : ℕ). word n) e
  where
    word : ℕ → PageTableEntry
    word n = record { entry = n }

-- by number and by what was found
reading_injective : (r s : Result (Option ℕ) Error) → reading_of r ≡ reading_of s → r ≡ s
reading_injective (Ok o) (Ok p) e = ap Ok (ap (λ (m : Reading). m.found) e)
reading_injective (Ok o) (Err f) e =
    let n = numbered f in
    let z : ◌≡◌ {A = ℕ} 0 (number_of f) = ap (λ (m : Reading). m.number) e in
    absurd (omega arith)
reading_injective (Err d) (Ok p) e =
    let n = numbered d in
    let z : ◌≡◌ {A = ℕ} (number_of d) 0 = ap (λ (m : Reading). m.number) e in
    absurd (omega arith)
reading_injective (Err d) (Err f) e = ap Err (one_error d f (ap (λ (m : Reading). m.number) e))

-- a refusal by its number, and what went well by none
one_number : (r s : Result Unit Error) → number_in r ≡ number_in s → r ≡ s
one_number (Ok a) (Ok b) e = refl
one_number (Ok a) (Err f) e = let n = numbered f in absurd (omega arith)
one_number (Err d) (Ok b) e = let n = numbered d in absurd (omega arith)
one_number (Err d) (Err f) e = ap Err (one_error d f e)

-- what comes of an operation that changes an entry, two times
module _ (r s : Result Unit Error) (y z : PageTableEntry) where
  one_change : (x : Answer) → answer_in r y ≡ x → answer_in s z ≡ x → (r ≡ s) × (y ≡ z)
  one_change x p q =
      let e = p ∙ sym q in
      (one_number r s (ap (λ (m : Answer). m.number) e), one_word y z (ap (λ (m : Answer). m.word) e))

  pub one_set_entry : (x : PageTableEntry) (k : PageTableEntryType) → SetsEntry x k r y → SetsEntry x k s z → (r ≡ s) × (y ≡ z)
  one_set_entry x k = one_change (set_entry x.entry k)

  pub one_set_addr : (x : PageTableEntry) (a : ℕ) → SetsAddress x a r y → SetsAddress x a s z → (r ≡ s) × (y ≡ z)
  one_set_addr x a = one_change (set_address x.entry a)

  pub one_set_leaf_addr : (x : PageTableEntry) (l a : ℕ) → SetsLeafAddress x l a r y → SetsLeafAddress x l a s z → (r ≡ s) × (y ≡ z)
  one_set_leaf_addr x l a = one_change (set_leaf_address l x.entry a)

pub one_gpa : (x : PageTableEntry) (r s : Option ℕ) → GivesAddress x r → GivesAddress x s → r ≡ s
one_gpa x r s p q = p ∙ sym q

pub one_leaf_gpa : (x : PageTableEntry) (l : ℕ) (r s : Result (Option ℕ) Error) → GivesLeafAddress x l r → GivesLeafAddress x l s → r ≡ s
one_leaf_gpa x l r s p q = reading_injective r s (p ∙ sym q)

pub one_is_present : (x : PageTableEntry) (r s : Bool) → TellsPresent x r → TellsPresent x s → r ≡ s
one_is_present x r s p q = p ∙ sym q

pub one_is_large_page : (x : PageTableEntry) (r s : Bool) → TellsLarge x r → TellsLarge x s → r ≡ s
one_is_large_page x r s p q = p ∙ sym q

pub one_clear : (y z : PageTableEntry) → Clears y → Clears z → y ≡ z
one_clear y z p q = one_word y z (p ∙ sym q)
