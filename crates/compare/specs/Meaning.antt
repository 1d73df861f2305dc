-- What holding two images against each other promises.
-- Assumes nothing.
use Rattle.std.specs.Prelude.{◌≡◌, List, [], ◌∷◌, ℕ, zero, suc, ◌+◌, ◌*◌, ◌≤◌, length, get_or, take, drop, true, Result, Ok, Err}
use Rattle.definitions.specs.Words.{words_of}
use Rattle.definitions.specs.Compare.{Change, changes, change_words, comparable, Compared, compare, not_compared}
use Rattle.definitions.specs.Refusals.{number_of, number_in}
use Rattle.definitions.specs.declared.refusals.Error.{Error}
use Rattle.compare.specs.declared.Differences.{Differences}

-- the comparison of two images' bytes, with a list of so many words
abbrev pub compared : List ℕ → List ℕ → ℕ → Compared
compared older newer room = compare (length older) (words_of older) (length newer) (words_of newer) room

-- the differences of two images' bytes
abbrev pub changes_of : List ℕ → List ℕ → List Change
changes_of older newer = changes (length newer) (words_of older) (words_of newer)

-- `list_changes`: all are at the list's start, or the images or the list are refused
abbrev pub Lists : List ℕ → List ℕ → ℕ → List ℕ → Result ℕ Error → Type 0
Lists older newer room list (Ok n) =
    (comparable (length older) (length newer) ≡ true) × (n ≡ length (changes_of older newer)) × (length list ≡ room)
    × (take (4 * n) list ≡ change_words (changes_of older newer))
Lists older newer room list (Err e) = (compared older newer room ≡ not_compared (number_of e) room) × (length list ≡ room)

-- the answer's four words: number, count, the part's first byte and its length
abbrev pub answer_words : Compared → List ℕ
answer_words c = c.number ∷ c.count ∷ c.start ∷ c.size ∷ []

-- the part of the newer image
abbrev pub part_of : List ℕ → Compared → List ℕ
part_of newer c = take c.size (drop c.start newer)

-- what is answered: the count, where the part starts, and the part; nothing and no part after a refusal
abbrev pub count_in : Result Differences Error → ℕ
count_in (Ok d) = d.count
count_in (Err e) = 0

abbrev pub start_in : Result Differences Error → ℕ
start_in (Ok d) = d.start
start_in (Err e) = 0

abbrev pub part_in : Result Differences Error → List ℕ
part_in (Ok d) = d.part.now
part_in (Err e) = []

-- the first byte and the length of the part, as a count and a list have them
abbrev pub first_byte : ℕ → List ℕ → ℕ
first_byte zero list = 0
first_byte (suc n) list = 4096 * get_or list 0 0

abbrev pub byte_count : ℕ → ℕ
byte_count zero = 0
byte_count (suc n) = 4096

-- what `accept` asks: the list has the differences, and the part lies in the newer image
abbrev pub Inside : List ℕ → List ℕ → ℕ → Type 0
Inside newer list n = (4 * n ≤ length list) × (first_byte n list + byte_count n ≤ length newer)

-- `accept`
pub record Accepts (newer list : List ℕ) (n : ℕ) (d : Differences) : Type 0 where
  pub counted : d.count ≡ n
  pub started : d.start ≡ first_byte n list
  pub handed : d.part.now ≡ take (byte_count n) (drop (first_byte n list) newer)

-- `compare`: the number, the count, the part and where it starts, and every word of the list
pub record Compares (older newer : List ℕ) (room : ℕ) (answer : Result Differences Error) (list : List ℕ) : Type 0 where
  pub numbered : number_in answer ≡ (compared older newer room).number
  pub counted : count_in answer ≡ (compared older newer room).count
  pub started : start_in answer ≡ (compared older newer room).start
  pub handed : part_in answer ≡ part_of newer (compared older newer room)
  pub listed : list ≡ (compared older newer room).list
