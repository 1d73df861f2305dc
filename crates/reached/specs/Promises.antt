-- What each operation on the set of tables reached promises.
-- Assumes nothing.
use Rattle.std.specs.Prelude.{◌≡◌, Bool, ℕ, ◌≤◌}
use Rattle.definitions.specs.Words.{no_tables, count}
use Rattle.reached.specs.Held.{set_of, marked}
use Rattle.reached.specs.declared.Reached.{Reached}

-- r is the set of no table
abbrev pub Empty : Reached → Type 0
Empty r = set_of r ≡ no_tables

-- r is whether table i is in s
abbrev pub Asks : Reached → ℕ → Bool → Type 0
Asks s i r = r ≡ set_of s i

-- r is s with table i
abbrev pub Marks : Reached → ℕ → Reached → Type 0
Marks s i r = set_of r ≡ marked (set_of s) i

-- after is s with table i, and r is whether it was in s
abbrev pub MarksAndAsks : Reached → ℕ → Reached → Bool → Type 0
MarksAndAsks s i after r = Marks s i after × Asks s i r

-- r is how many tables are in s
abbrev pub Counts : Reached → ℕ → Type 0
Counts s r = (r ≡ count 512 0 (set_of s)) × (r ≤ 512)
