-- The call of `build`: what the passes are given, and what a refusal and an accepted build leave.
-- Assumes nothing.
use mathlib.Core.Path.{◌≡◌, refl, sym, ap, ap₂, ◌∙◌}
use mathlib.Core.List.{List, ◌++◌}
use Prim.Native.Nat.{ℕ, ◌-◌, ◌≤◌}
use native.Mathlib.Omega.{arith}
use lib.ListN.{length, take, drop, replicate}
use lib.Seq.{paste}
use Rattle.definitions.specs.Words.{Mem, words_of, bytes_of}
use Rattle.definitions.specs.Inputs as I
use Rattle.definitions.specs.Build.{geometry_of, geometry, root, refused, job_of, output_bytes}
use Rattle.definitions.specs.Ranges.{moved_region}
use Rattle.definitions.proofs.Words.{Bytes, bytes_words, words_padded}
use Rattle.definitions.proofs.Ranges.{region_sound}
use Rattle.definitions.proofs.Checks.{Good}
use Rattle.definitions.proofs.Build.{output_refused}
use Rattle.std.specs.Prelude.{true, false, Result, Ok, Err, is_ok}
use Rattle.definitions.specs.declared.Counts.{Counts}
use Rattle.definitions.specs.declared.Refusal.{Refusal}
use Rattle.definitions.specs.declared.Region.{Region}
use Rattle.definitions.specs.declared.paging.Geometry.{Geometry}
use Rattle.pass1.specs.declared.Plan.{Plan}
use Rattle.build.specs.Meaning.{Ready, Passes, Builds}
use Rattle.build.proofs.Buffers.{image_then_zeros, cleared_length}

-- the image fits the output
pub image_fits : (j : I.Job) → Good j → j.image_length ≤ j.output_length
image_fits j g = let a = region_sound (geometry j).limit j.region g.region in omega (arith, a.fits, g.image, g.output)

-- the plan of a call, with the regions and the offset
abbrev pub plan_with : Geometry → Region → Region → ℕ → Plan
plan_with g r new o = record { geometry = g; old = r; new = new; offset = o }

-- the output holds the image and then zeros
pub ready_with : (r new : Region) (cr3 cr4 o : ℕ) (ws image out xs : List ℕ) (g : Geometry) → g ≡ geometry_of cr4 → new ≡ moved_region r o
    → let j = job_of r cr3 cr4 o ws image (length out) (length xs) in Good j
    → (t : ℕ) → t ≡ root j → (mid bytes : List ℕ) → mid ≡ paste out 0 image (length image)
    → bytes ≡ take (length image) mid ++ replicate (length (drop (length image) mid)) 0
    → Ready j bytes xs ws (plan_with g r new o) t
unfolding job_of
ready_with r new cr3 cr4 o ws image out xs g eg moves good t h mid bytes e f =
    let fits : length image ≤ length out = image_fits _ good in
    let held : bytes ≡ image ++ replicate (length out - length image) 0 = image_then_zeros out image mid bytes fits e f in
    record {
      good = good;
      geometry = sym eg;
      region = refl;
      offset = refl;
      moves = moves;
      words = refl;
      root = h;
      image = ap words_of held ∙ words_padded image (length out - length image);
      output = ap length held ∙ cleared_length image (length out) fits;
      room = refl;
    }

-- ---- the answer of both, and what is left in the buffers
module _ {j : I.Job} where
  -- a refusal: both are zeroed
  pub refused_builds : (a : Result Counts Refusal) (m : Mem) {bytes words : List ℕ} → is_ok a ≡ false → Passes j m a
      → bytes ≡ replicate j.output_length 0 → words ≡ replicate j.scratch_length 0 → Builds j a bytes words
  unfolding refused
  refused_builds (Ok c) m bad d b w = absurd (cc)
  refused_builds (Err r) m bad d b w = record {
    report = sym (ap (λ (x : I.Built). x.report) d);
    output = b ∙ sym (output_refused j _ _ d);
    scratch = w;
  }

  -- acceptance: the scratch alone
  pub accepted_builds : (a : Result Counts Refusal) (bytes : List ℕ) {words : List ℕ} → is_ok a ≡ true → Passes j (words_of bytes) a
      → Bytes bytes → length bytes ≡ j.output_length → words ≡ replicate j.scratch_length 0 → Builds j a bytes words
  unfolding output_bytes
  accepted_builds (Ok c) bytes good d b lb w = record {
    report = d.0;
    output = sym (bytes_words bytes b) ∙ ap₂ bytes_of lb d.1;
    scratch = w;
  }
  accepted_builds (Err r) bytes good d b lb w = absurd (cc)
