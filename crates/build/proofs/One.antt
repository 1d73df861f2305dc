-- Any two outcomes that the promise of a build allows are equal.
-- Assumes nothing.
use Rattle.std.specs.Prelude.{◌≡◌, ℕ, List, Result, Ok, Err}
use Rattle.std.proofs.Common.{sym, ap, ◌∙◌, arith}
use Rattle.definitions.specs.Inputs as I
use Rattle.definitions.specs.Refusals.{number_of}
use Rattle.definitions.specs.declared.Counts.{Counts}
use Rattle.definitions.specs.declared.Refusal.{Refusal}
use Rattle.definitions.proofs.Numbering.{numbered, one_error}
use Rattle.build.specs.Meaning.{report_of, Builds}

-- two answers with one report are one
report_injective : (a b : Result Counts Refusal) → report_of a ≡ report_of b → a ≡ b
report_injective (Ok c) (Ok d) e = λ i. Ok (record { used = (e i).used; moved = (e i).moved; merged = (e i).merged; reached = (e i).reached })
report_injective (Ok c) (Err r) e =
    let n = numbered r.error in
    let z : ◌≡◌ {A = ℕ} 0 (number_of r.error) = ap (λ (p : I.Report). p.number) e in
    absurd (omega arith)
report_injective (Err q) (Ok d) e =
    let n = numbered q.error in
    let z : ◌≡◌ {A = ℕ} (number_of q.error) 0 = ap (λ (p : I.Report). p.number) e in
    absurd (omega arith)
report_injective (Err q) (Err r) e =
    let error = one_error q.error r.error (ap (λ (p : I.Report). p.number) e) in
    λ i. Err (record { error = error i; place = (e i).place })

pub one_outcome : (j : I.Job) (a b : Result Counts Refusal) (bytes bytes' words words' : List ℕ) → Builds j a bytes words → Builds j b bytes' words'
    → (a ≡ b) × (bytes ≡ bytes') × (words ≡ words')
one_outcome j a b bytes bytes' words words' p q =
    (report_injective a b (p.report ∙ sym q.report), p.output ∙ sym q.output, p.scratch ∙ sym q.scratch)
