-- A comparison of two images: it is refused for its lengths or for a list too short, and for nothing else (refused, accepted_iff), and
-- then gives nothing (refused_empty); the list has exactly the entries that differ, each once, by table and then entry, and then zeros
-- (lists_changes, fits); the part is the first page that differs (first_page), and empty where no word differs (no_page, nothing_iff),
-- which is where the bytes are the same (same_iff). Builds on Differing of crates/definitions/proofs. Assumes nothing.
use Prim.Native.Nat.{ℕ, ◌-◌, ◌*◌, ◌/◌, ◌≤◌, ◌<◌}
use mathlib.Core.Path.{◌≡◌, refl, sym, ap, ap₂, ◌∙◌, fun_ext}
use mathlib.Core.List.{List}
use mathlib.Core.Logic.{◌⊎◌, inl, inr, ⊎_elim, ◌↔◌}
use native.Mathlib.Decide.{dec_le}
use native.Mathlib.Omega.{arith}
use lib.ListN.{length, get_or}
use Rattle.definitions.specs.Words.{Mem, words_of, bytes_of}
use Rattle.definitions.specs.Compare.{Change, changes, comparable, Compared, not_compared, listed, compare, ListsChanges, FirstPage}
use Rattle.definitions.proofs.Splits.{on_bool, impossible}
use Rattle.definitions.proofs.Words.{Bytes, bytes_words, words_at, number_past}
use Rattle.definitions.proofs.Compare.{Comparable, comparable_iff, compare_refused, compare_short, compare_listed}
use Rattle.definitions.proofs.Compare.{listed_length, refused_length, refused_nothing}
use Rattle.definitions.proofs.Changes.{nth}
use Rattle.definitions.proofs.Differing.{lists, none_iff, first_differing, page_start_lem, page_length_lem, empty_part}

module _ (older_length : ℕ) (older : Mem) (newer_length : ℕ) (newer : Mem) (room : ℕ) where
  abbrev pub c : Compared
  c = compare older_length older newer_length newer room

  abbrev pub cs : List Change
  cs = changes newer_length older newer

  -- ---- acceptance

  abbrev Accepted : Type 0
  Accepted = Comparable older_length newer_length × (4 * length cs ≤ room) × (c ≡ listed room cs)

  abbrev pub Refused : Type 0
  Refused =
      ((¬ Comparable older_length newer_length) × (c ≡ not_compared 34 room))
      ⊎ (Comparable older_length newer_length × (room < 4 * length cs) × (c ≡ not_compared 15 room))

  ends : Accepted ⊎ Refused
  ends =
      let in_numbers = comparable_iff older_length newer_length in
      on_bool (comparable older_length newer_length)
      (λ n. inr (inl (λ y. impossible (let e = in_numbers.1 y in cc), compare_refused older_length older newer_length newer room n)))
      (λ y. elim (dec_le (4 * length cs) room) [
        | yes h ↦ inl (in_numbers.0 y, h, compare_listed older_length older newer_length newer room y h)
        | no h ↦ inr (inr (in_numbers.0 y, omega arith, compare_short older_length older newer_length newer room y (omega arith)))
      ])

  number_zero : Accepted → c.number ≡ 0
  unfolding listed
  number_zero a = rw a.2 refl

  number_other : Refused → ¬ (c.number ≡ 0)
  unfolding not_compared
  number_other = ⊎_elim (λ r z. omega (arith, rw r.1 at z)) (λ r z. omega (arith, rw r.2 at z))

  accepted : c.number ≡ 0 → Accepted
  accepted z = ⊎_elim (λ a. a) (λ r. absurd (number_other r z)) ends

  -- a refusal is 34 where the lengths are not comparable, and else 15 where the list is too short
  pub refused : ¬ (c.number ≡ 0) → Refused
  refused n = ⊎_elim (λ a. absurd (n (number_zero a))) (λ r. r) ends

  pub accepted_iff : (c.number ≡ 0) ↔ (Comparable older_length newer_length × (4 * length cs ≤ room))
  accepted_iff = (
    λ z. let a = accepted z in (a.0, a.1),
    λ h. ⊎_elim number_zero (⊎_elim (λ r. absurd (r.0 h.0)) (λ r. absurd (omega (arith, h.1, r.1)))) ends,
  )

  -- with it come no count, a list of zeros and no part
  pub refused_empty : ¬ (c.number ≡ 0) → (c.count ≡ 0) × ((p : ℕ) → get_or c.list p 0 ≡ 0) × (c.start ≡ 0) × (c.size ≡ 0)
  refused_empty n = ⊎_elim (λ r. rw r.1 (refused_nothing 34 room)) (λ r. rw r.2 (refused_nothing 15 room)) (refused n)

  -- ---- the list

  pub fits : length c.list ≡ room
  fits =
      ⊎_elim
      (λ a. rw a.2 (listed_length room cs a.1))
      (⊎_elim (λ r. rw r.1 (refused_length 34 room)) (λ r. rw r.2 (refused_length 15 room)))
      ends

  pub lists_changes : c.number ≡ 0 → ListsChanges newer_length older newer c.count c.list
  unfolding listed
  lists_changes z = let a = accepted z in rw a.2 (lists newer_length older newer a.0.whole (room - 4 * length cs))

  -- ---- the part

  pub first_page : c.number ≡ 0 → 0 < c.count
      → (t : ℕ) × (c.start ≡ 4096 * t) × (c.size ≡ 4096) × FirstPage newer_length older newer t
  unfolding listed
  first_page z h =
      let a = accepted z in
      let some : 0 < length cs = rw a.2 at h in
      rw a.2 ((nth cs 0).table, page_start_lem cs, page_length_lem cs some, first_differing newer_length older newer a.0.whole some)

  pub no_page : c.number ≡ 0 → c.count ≡ 0 → (c.start ≡ 0) × (c.size ≡ 0)
  unfolding listed
  no_page z h = let a = accepted z in rw a.2 (empty_part cs (rw a.2 at h))

  -- ---- where nothing differs

  pub nothing_iff : c.number ≡ 0 → (c.count ≡ 0) ↔ ((k : ℕ) → k < newer_length / 8 → older k ≡ newer k)
  unfolding listed
  nothing_iff z = rw (accepted z).2 (none_iff newer_length older newer)

-- the words past a buffer's end are zero
past : (xs : List ℕ) (k : ℕ) → length xs ≤ 8 * k → words_of xs k ≡ 0
past xs k h = words_at xs k ∙ number_past 8 xs (8 * k) h

-- of bytes: those of two images are the same exactly where nothing is listed
pub same_iff : (xs ys : List ℕ) (room : ℕ) → Bytes xs → Bytes ys → let d = compare (length xs) (words_of xs) (length ys) (words_of ys) room in
    d.number ≡ 0 → (d.count ≡ 0) ↔ (xs ≡ ys)
same_iff xs ys room bx by z =
    let lengths = (accepted (length xs) (words_of xs) (length ys) (words_of ys) room z).0 in
    let nothing = nothing_iff (length xs) (words_of xs) (length ys) (words_of ys) room z in
    let words : ((k : ℕ) → k < length ys / 8 → words_of xs k ≡ words_of ys k) → words_of xs ≡ words_of ys =
    λ same. fun_ext λ k. elim (dec_le (length ys) (8 * k)) [
      | yes h ↦ past xs k (omega arith) ∙ sym (past ys k h)
      | no h ↦ same k (omega arith)
    ] in (
      λ e. sym (bytes_words xs bx) ∙ ap₂ bytes_of lengths.equal (words (nothing.0 e)) ∙ bytes_words ys by,
      λ e. nothing.1 (λ k h. ap (λ (l : List ℕ). words_of l k) e),
    )
