-- What the types of the code mean in the definitions, and what each function promises.
-- Assumes nothing.
use Rattle.std.specs.Prelude.{◌≡◌, List, ℕ, ◌+◌, ◌*◌, length, replicate, Result, Ok, Err}
use Rattle.definitions.specs.Words.{Mem, words_of, count}
use Rattle.definitions.specs.Inputs as I
use Rattle.definitions.specs.Refusals.{number_of}
use Rattle.definitions.specs.Step.{stopped}
use Rattle.definitions.specs.Ranges.{moved_region}
use Rattle.definitions.specs.Build.{geometry, root, start, refused, build, output_bytes}
use Rattle.definitions.proofs.Checks.{Good}
use Rattle.definitions.specs.declared.Refusal.{Refusal}
use Rattle.definitions.specs.declared.Counts.{Counts}
use Rattle.reached.specs.Held.{set_of}
use Rattle.pass1.specs.declared.Plan.{Plan}
use Rattle.pass1.specs.declared.Walk.{Walk}
use Rattle.pass2.specs.declared.Fill.{Fill}

-- what a build that both passes let through counts
abbrev pub counted : Walk → Fill → Counts
counted w f = record {
  used = 4096 * f.next;
  moved = w.store.front + w.store.back;
  merged = f.merged;
  reached = count 512 0 (set_of w.reached);
}

-- the checks: all passed, and t is the root's table; or the first that applies
abbrev pub Starts : I.Job → Result ℕ Refusal → Type 0
Starts j (Ok t) = Good j × (t ≡ root j)
Starts j (Err r) = start j ≡ stopped r

-- the passes are called for job j: its checks passed, the plan is its own, and the output holds its image
pub record Ready (j : I.Job) (out scratch ws : List ℕ) (p : Plan) (t : ℕ) : Type 0 where
  pub good : Good j
  pub geometry : geometry j ≡ p.geometry
  pub region : j.region ≡ p.old
  pub offset : j.table_offset ≡ p.offset
  pub moves : p.new ≡ moved_region p.old p.offset
  pub words : j.words ≡ ws
  pub root : t ≡ root j
  pub image : words_of out ≡ j.image
  pub output : length out ≡ j.output_length
  pub room : length scratch ≡ j.scratch_length

-- what a build makes of a refusal
abbrev pub refused_by : Refusal → I.Built
refused_by r = refused (number_of r.error) r.place

-- the report of an answer: of a refusal it has the number and the place
abbrev pub report_of : Result Counts Refusal → I.Report
report_of (Ok c) =
    record { number = 0; used = c.used; moved = c.moved; merged = c.merged; reached = c.reached; place = I.nowhere }
report_of (Err r) = record { number = number_of r.error; used = 0; moved = 0; merged = 0; reached = 0; place = r.place }

abbrev pub Passes : I.Job → Mem → Result Counts Refusal → Type 0
Passes j m (Ok c) = (report_of (Ok c) ≡ (build j).report) × (m ≡ (build j).output)
Passes j m (Err r) = build j ≡ refused_by r

-- `build`: the report, every byte of the output and every word of the scratch, for a job
pub record Builds (j : I.Job) (a : Result Counts Refusal) (bytes words : List ℕ) : Type 0 where
  pub report : report_of a ≡ (build j).report
  pub output : bytes ≡ output_bytes j
  pub scratch : words ≡ replicate j.scratch_length 0
