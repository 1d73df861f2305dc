-- What the exported functions promise, in the definitions' terms.
-- Assumes nothing.
use Rattle.std.specs.Prelude.{◌≡◌, List, [], ◌∷◌, ℕ, replicate}
use Rattle.definitions.specs.Inputs.{Job, Report}
use Rattle.definitions.specs.Build.{geometry_of, build, output_bytes}
use Rattle.definitions.specs.Load.{load}
use Rattle.compare.specs.Meaning.{compared, answer_words}
use Rattle.definitions.specs.declared.Region.{Region}

abbrev pub region_at : ℕ → ℕ → ℕ → Region
region_at gpa size used = record { gpa = gpa; size = size; used = used }

-- the report's eight words, in the order of the header
abbrev pub report_words : Report → List ℕ
report_words r =
    r.number ∷ r.used ∷ r.moved ∷ r.merged ∷ r.reached
    ∷ r.place.address ∷ r.place.level ∷ r.place.offset ∷ []

-- `archwend_build`: the report, every byte of the output and every word of the scratch, for a job
pub record Answers (j : Job) (report output scratch : List ℕ) : Type 0 where
  pub reported : report ≡ report_words (build j).report
  pub built : output ≡ output_bytes j
  pub cleared : scratch ≡ replicate j.scratch_length 0

-- `archwend_set_page_data`: the number, and every byte of the image
pub record LoadsPage (cr4 : ℕ) (r : Region) (image : List ℕ) (gpa : ℕ) (page : List ℕ) (n : ℕ) (after : List ℕ) : Type 0 where
  pub number : n ≡ (load (geometry_of cr4) r image gpa page).number
  pub loaded : after ≡ (load (geometry_of cr4) r image gpa page).image

-- `archwend_compare`: the answer's four words, and every word of the list
pub record ComparesImages (older newer : List ℕ) (room : ℕ) (answer list : List ℕ) : Type 0 where
  pub answered : answer ≡ answer_words (compared older newer room)
  pub listed : list ≡ (compared older newer room).list

-- §2.13: "it is 2"
abbrev pub interface : ℕ
interface = 2

-- `archwend_interface_2`
abbrev pub NamesInterface : ℕ → Type 0
NamesInterface n = n ≡ interface
