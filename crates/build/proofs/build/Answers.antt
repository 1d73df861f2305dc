-- `build::build` meets its contract: the scratch is cleared, and the output too where something is refused. No loop.
-- Assumes nothing.
use Rattle.build.proofs.Ending.{refused_builds, accepted_builds}
use Rattle.definitions.specs.Words.{words_of}
use Rattle.definitions.specs.Build.{job_of}
use Rattle.std.specs.Prelude.{Err, is_ok}
use Rattle.std.proofs.Common.{◌≡◌, ℕ, refl, ap, ◌∙◌, length, replicate, arith, rules}
use Rattle.build.proofs.build.Goals as goal

pub returns-in_default : goal.returns-in_default
unfolding job_of
returns-in_default c =
    let long : length c.relocate-built.new.out ≡ length c.args.out.now = search rules in
    accepted_builds c.relocate-built.result c.relocate-built.new.out (ap is_ok c.in_default.is)
    c.relocate-built.ensures (λ i. omega (arith, c.type_inv.out i)) long
    (c.fill_from.ensures ∙ ap (λ (n : ℕ). replicate n 0) c.relocate-built.auto.scratch)

pub returns : goal.returns
unfolding job_of
returns c =
    let long : length c.relocate-built.new.out ≡ length c.args.out.now = search rules in
    refused_builds (Err c.in-Err.refusal) (words_of c.relocate-built.new.out) refl c.in-Err.ensures
    (c.fill_from-2.ensures ∙ ap (λ (n : ℕ). replicate n 0) long)
    (c.fill_from.ensures ∙ ap (λ (n : ℕ). replicate n 0) c.relocate-built.auto.scratch)
