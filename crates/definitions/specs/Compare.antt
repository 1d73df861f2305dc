-- Two images held against each other: which entries differ, the list of them, and the first page that differs.
-- Assumes nothing.
use Rattle.std.specs.Prelude.{Bool, not, cond, ◌&&◌, List, [], ◌∷◌, ◌++◌, ◌≡◌, ◌⊎◌, ℕ, zero, suc, ◌+◌, ◌-◌, ◌*◌, ◌/◌, ◌%◌, ◌≤◌, ◌<◌, eqb, leb, ltb, length, get_or, replicate}
use Rattle.definitions.specs.Words.{Mem, slot}

-- §14.1: "equally long, a multiple of 4096 and at most 2 MiB"
unfoldable pub comparable : ℕ → ℕ → Bool
comparable older newer = eqb older newer && eqb (newer % 4096) 0 && leb newer 2097152

-- §14.2: "its table, its number in that table, the older value and the newer one"
pub record Change : Type 0 where
  pub table : ℕ
  pub entry : ℕ
  pub before : ℕ
  pub after : ℕ

-- the words k of two images, as a change
abbrev pub change_at : Mem → Mem → ℕ → Change
change_at older newer k = record { table = k / 512; entry = k % 512; before = older k; after = newer k }

-- the changes among n words from word k on, in order
unfoldable pub changes_from : ℕ → ℕ → Mem → Mem → List Change
changes_from zero k older newer = []
changes_from (suc n) k older newer =
    cond (eqb (older k) (newer k)) (changes_from n (suc k) older newer)
    (change_at older newer k ∷ changes_from n (suc k) older newer)

-- §14.2: "Each entry that differs is listed, by table and then by entry", of images of so many bytes
unfoldable pub changes : ℕ → Mem → Mem → List Change
changes size older newer = changes_from (size / 8) 0 older newer

-- §14.3: "Four words of the list for each"
unfoldable pub change_words : List Change → List ℕ
change_words [] = []
change_words (c ∷ cs) = c.table ∷ c.entry ∷ c.before ∷ c.after ∷ change_words cs

-- §14.4: "the first page that differs": its first byte, and how many bytes it has
unfoldable pub page_start : List Change → ℕ
page_start [] = 0
page_start (c ∷ cs) = 4096 * c.table

unfoldable pub page_length : List Change → ℕ
page_length [] = 0
page_length (c ∷ cs) = 4096

-- what a comparison answers: the number, the count, every word of the list, and the part of the newer image
pub record Compared : Type 0 where
  pub number : ℕ
  pub count : ℕ
  pub list : List ℕ
  pub start : ℕ
  pub size : ℕ

-- §14.5: "the count is 0, the list all zeros and the part empty"
unfoldable pub not_compared : ℕ → ℕ → Compared
not_compared n room = record { number = n; count = 0; list = replicate room 0; start = 0; size = 0 }

-- §14.3: the words of the changes, "then zeros to the list's end"
unfoldable pub listed : ℕ → List Change → Compared
listed room cs = record {
  number = 0;
  count = length cs;
  list = change_words cs ++ replicate (room - 4 * length cs) 0;
  start = page_start cs;
  size = page_length cs;
}

-- §14.5: "a list too short is 15"
unfoldable pub fitted : ℕ → List Change → Compared
fitted room cs = cond (ltb room (4 * length cs)) (not_compared 15 room) (listed room cs)

-- §14.5: "looked at in this order": two images, each by its length in bytes and its words, and how many words the list has
unfoldable pub compare : ℕ → Mem → ℕ → Mem → ℕ → Compared
compare older_length older newer_length newer room =
    cond (not (comparable older_length newer_length)) (not_compared 34 room) (fitted room (changes newer_length older newer))

-- ---- what an auditor may rely on, stated by single entries

-- an entry of images of so many bytes that differs, with both its values
pub record Differs (size : ℕ) (older newer : Mem) (c : Change) : Type 0 where
  pub in_table : c.table < size / 4096
  pub in_entries : c.entry < 512
  pub was : c.before ≡ older (slot c.table c.entry)
  pub is : c.after ≡ newer (slot c.table c.entry)
  pub unequal : ¬ (c.before ≡ c.after)

-- quadruple j of a list of words
abbrev pub quadruple : List ℕ → ℕ → Change
quadruple ws j = record {
  table = get_or ws (4 * j) 0;
  entry = get_or ws (4 * j + 1) 0;
  before = get_or ws (4 * j + 2) 0;
  after = get_or ws (4 * j + 3) 0;
}

-- a quadruple is in the list
abbrev pub Listed : List ℕ → ℕ → Change → Type 0
Listed ws count c = (j : ℕ) × (j < count) × (quadruple ws j ≡ c)

-- "by table and then entry"
abbrev pub Precedes : Change → Change → Type 0
Precedes c d = (c.table < d.table) ⊎ ((c.table ≡ d.table) × (c.entry < d.entry))

-- "Each difference is listed once, nothing else is listed": a quadruple is in the list exactly when its entry differs; no two
-- places of the list hold the same one; they are in order; and the words after them are zero
pub record ListsChanges (size : ℕ) (older newer : Mem) (count : ℕ) (ws : List ℕ) : Type 0 where
  pub only : (c : Change) → Listed ws count c → Differs size older newer c
  pub each : (c : Change) → Differs size older newer c → Listed ws count c
  pub once : (i j : ℕ) → i < count → j < count → quadruple ws i ≡ quadruple ws j → i ≡ j
  pub ordered : (i j : ℕ) → i < j → j < count → Precedes (quadruple ws i) (quadruple ws j)
  pub zeros : (p : ℕ) → 4 * count ≤ p → get_or ws p 0 ≡ 0

-- "the first differing page": page t is it, where an entry of table t differs and none of a table before it
pub record FirstPage (size : ℕ) (older newer : Mem) (t : ℕ) : Type 0 where
  pub inside : 4096 * t + 4096 ≤ size
  pub differs : (i : ℕ) × (i < 512) × ¬ (older (slot t i) ≡ newer (slot t i))
  pub first : (k : ℕ) → k < 512 * t → older k ≡ newer k
