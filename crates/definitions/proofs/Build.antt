-- A build case by case: what each stop, and the end of both passes, make of it; and the job of a call is proper.
-- Assumes nothing.
use mathlib.Core.Path.{◌≡◌, refl, ap, ap₂, ◌∙◌}
use mathlib.Core.List.{List, ◌∷◌}
use Prim.Native.Nat.{ℕ, zero, suc, ◌%◌, ◌^◌, ◌*◌, ◌<◌}
use native.Mathlib.Nat.{zero-div}
use lib.ListN.{replicate, get_or}
use Rattle.definitions.specs.Words.{blank, byte_of, bytes_from, bytes_of, words_of}
use Rattle.definitions.specs.Inputs.{Job, Place, Built, Region}
use Rattle.definitions.specs.Step.{go, stop, and_then}
use Rattle.definitions.specs.Pass1.{State}
use Rattle.definitions.specs.Pass2.{Fill}
use Rattle.definitions.specs.Build.{start, first_pass, second_pass, accepted, refused, result, passes, build, output_bytes, job_of}
use Rattle.definitions.proofs.Checks.{start_state, Good, starts}
use Rattle.definitions.specs.Demand.{Proper}
use Rattle.definitions.proofs.Words.{Bytes, number_lt, number_past}

module _ (j : Job) where
  pub build_checks : (n : ℕ) (p : Place) → start j ≡ stop n p → build j ≡ refused n p
  unfolding build and_then result
  build_checks n p e = rw e

  module _ (good : Good j) where
    pub build_first : (n : ℕ) (p : Place) → first_pass j (start_state j) ≡ stop n p → build j ≡ refused n p
    unfolding build passes and_then result
    build_first n p e = rw (starts j good, e)

    module _ (s : State) (first : first_pass j (start_state j) ≡ go s) where
      pub build_second : (n : ℕ) (p : Place) → second_pass j s ≡ stop n p → build j ≡ refused n p
      unfolding build passes and_then result
      build_second n p e = rw (starts j good, first, e)

      pub build_accepted : (f : Fill) → second_pass j s ≡ go f → build j ≡ accepted s f
      unfolding build passes and_then result
      build_accepted f e = rw (starts j good, first, e)

blank_bytes : (n p : ℕ) → bytes_from n p blank ≡ replicate n 0
unfolding bytes_from byte_of blank
blank_bytes zero p = refl
blank_bytes (suc n) p = ap₂ (λ (x : ℕ) (xs : List ℕ). x % 256 ∷ xs) (zero-div (256 ^ (p % 8))) (blank_bytes n (suc p))

-- a refused build leaves zeros
pub output_refused : (j : Job) (n : ℕ) (p : Place) → build j ≡ refused n p → output_bytes j ≡ replicate j.output_length 0
unfolding output_bytes bytes_of refused
output_refused j n p e = ap (λ (b : Built). bytes_from j.output_length 0 b.output) e ∙ blank_bytes j.output_length 0

pub job_proper : (r : Region) (cr3 cr4 o : ℕ) (words image : List ℕ) (n m : ℕ)
    → Bytes image → ((i : ℕ) → get_or words i 0 < 2 ^ 64) → cr3 < 2 ^ 64 → o < 2 ^ 64 → Proper (job_of r cr3 cr4 o words image n m)
unfolding job_of words_of
job_proper r cr3 cr4 o words image n m b w c d =
    record { image = λ k. number_lt 8 image (8 * k) b; past = λ k h. number_past 8 image (8 * k) h; words = w; cr3 = c; offset = d }
