-- What a caller of `archwend_compare` may rely on: of any answer and list that a call leaves by its promise (`ComparesImages`). The
-- words are those of definitions/specs/Compare.antt. Builds on Differences of crates/demands/proofs. Assumes nothing.
use mathlib.Core.Path.{◌≡◌}
use mathlib.Core.List.{List}
use mathlib.Core.Logic.{◌↔◌}
use Prim.Native.Nat.{ℕ, ◌*◌, ◌≤◌, ◌<◌}
use lib.ListN.{length, get_or}
use Rattle.definitions.specs.Words.{Mem, words_of}
use Rattle.definitions.specs.Compare.{ListsChanges, FirstPage}
use Rattle.definitions.proofs.Words.{Bytes}
use Rattle.definitions.proofs.Compare.{Comparable}
use Rattle.demands.proofs.Differences as differences
use Rattle.compare.specs.Meaning.{changes_of}
use Rattle.archwend.specs.Exports.{ComparesImages}

-- ---- the answer as it is read
abbrev pub compared_read : List ℕ → ℕ
compared_read answer = get_or answer 0 0

abbrev pub count_read : List ℕ → ℕ
count_read answer = get_or answer 1 0

abbrev pub start_read : List ℕ → ℕ
start_read answer = get_or answer 2 0

abbrev pub size_read : List ℕ → ℕ
size_read answer = get_or answer 3 0

module _ (older newer : List ℕ) (room : ℕ) (answer list : List ℕ) (c : ComparesImages older newer room answer list) where
  -- the images' words
  abbrev was : Mem
  was = words_of older

  abbrev is : Mem
  is = words_of newer

  -- accepted exactly where the images can be compared and the list has four words for each entry that differs
  pub accepted_comparison :
      (compared_read answer ≡ 0) ↔ (Comparable (length older) (length newer) × (4 * length (changes_of older newer) ≤ room))
  accepted_comparison = rw c.answered (differences.accepted_iff (length older) was (length newer) is room)

  -- the list is as long as it was
  pub list_long : length list ≡ room
  list_long = rw c.listed (differences.fits (length older) was (length newer) is room)

  -- refused: the count is 0, every word of the list is 0, and the part is empty
  pub refused_comparison :
      ¬ (compared_read answer ≡ 0)
      → (count_read answer ≡ 0) × ((p : ℕ) → get_or list p 0 ≡ 0) × (start_read answer ≡ 0) × (size_read answer ≡ 0)
  refused_comparison =
      rw (c.answered, c.listed) (differences.refused_empty (length older) was (length newer) is room)

  -- a quadruple is in the list exactly when its entry differs, each once, by table and then entry; then zeros
  pub listed_exactly : compared_read answer ≡ 0 → ListsChanges (length newer) was is (count_read answer) list
  listed_exactly = rw (c.answered, c.listed) (differences.lists_changes (length older) was (length newer) is room)

  -- the part is the first page that differs, whole
  pub first_page_read :
      compared_read answer ≡ 0
      → 0 < count_read answer
      → (t : ℕ) × (start_read answer ≡ 4096 * t) × (size_read answer ≡ 4096) × FirstPage (length newer) was is t
  first_page_read = rw c.answered (differences.first_page (length older) was (length newer) is room)

  -- nothing differs: the part is empty
  pub no_page_read : compared_read answer ≡ 0 → count_read answer ≡ 0 → (start_read answer ≡ 0) × (size_read answer ≡ 0)
  no_page_read = rw c.answered (differences.no_page (length older) was (length newer) is room)

  -- and that is so exactly where the images are the same, byte for byte
  pub same_images : Bytes older → Bytes newer → compared_read answer ≡ 0 → (count_read answer ≡ 0) ↔ (older ≡ newer)
  same_images = rw c.answered (differences.same_iff older newer room)
