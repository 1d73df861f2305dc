-- What reading a file says of the buffer.
-- Assumes nothing.
use Rattle.std.specs.Prelude.{ℕ, ◌<◌, List, length, take, Option}
use Rattle.std.specs.Io.KnownBytes.{Consumes, IsAtEnd}

-- Where it is known what a reader has left, the buffer begins with the n bytes that it gave, and nothing is left where that does not
-- fill the buffer.
abbrev pub Fills : Option (List ℕ) → Option (List ℕ) → List ℕ → ℕ → Type 0
Fills before after buf n = Consumes before after (take n buf) × (n < length buf → IsAtEnd after)
