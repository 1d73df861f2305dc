-- The list of changes of two images. It has exactly the entries that differ, each once, by table and then entry, also as words (lists);
-- its first one gives the first page that differs (first_differing), and it is empty exactly where no word differs (none_iff).
-- Assumes nothing.
use mathlib.Core.Path.{◌≡◌, refl, sym, ap, ◌∙◌}
use mathlib.Core.List.{List, [], ◌∷◌, ◌++◌}
use mathlib.Core.Logic.{inl, inr, ◌↔◌}
use Prim.Native.Nat.{ℕ, suc, ◌*◌, ◌/◌, ◌%◌, ◌<◌}
use native.Mathlib.Decide.{dec_le}
use native.Mathlib.Omega.{arith}
use lib.ListN.{length, replicate}
use Rattle.definitions.specs.Words.{Mem, slot}
use Rattle.definitions.specs.Compare.{Change, change_at, changes, change_words, page_start, page_length}
use Rattle.definitions.specs.Compare.{Differs, Precedes, ListsChanges, FirstPage}
use Rattle.definitions.proofs.Splits.{on_eq}
use Rattle.definitions.proofs.Changes.{nth, slot_of, Every, Placed, Ascending, in_range, ascending, found, quadruple_at, zeros_after}

-- by the words' numbers is by table and then entry
precedes : (q r c d : Change) → q ≡ c → r ≡ d → d.entry < 512 → slot_of c < slot_of d → Precedes q r
precedes q r c d e f h l = rw (e, f) (elim (dec_le (suc c.table) d.table) [ yes t ↦ inl t | no n ↦ inr (omega arith, omega arith) ])

apart : (c d : Change) → slot_of c < slot_of d → ¬ (c ≡ d)
apart c d l e = omega (arith, ap slot_of e)

module _ (size : ℕ) (older newer : Mem) where
  abbrev cs : List Change
  cs = changes size older newer

  -- nothing is listed exactly where no word differs
  pub none_iff : (length cs ≡ 0) ↔ ((k : ℕ) → k < size / 8 → older k ≡ newer k)
  unfolding changes
  none_iff = (
    λ e k h. on_eq (older k) (newer k) (λ s. s) (λ d. absurd (omega (arith, (found older newer (size / 8) 0 k (omega arith) (omega arith) d).1))),
    λ same. on_eq (length cs) 0 (λ e. e) (λ n.
        let r = in_range older newer (size / 8) 0 0 (omega arith) in absurd (r.differs (same r.word (omega arith)))),
  )

  module _ (whole : size % 4096 ≡ 0) where
    word_differs : (w : ℕ) → w < size / 8 → ¬ (older w ≡ newer w) → Differs size older newer (change_at older newer w)
    word_differs w h d =
        let e : w ≡ slot (w / 512) (w % 512) = omega arith in
        record { in_table = omega arith; in_entries = omega arith; was = ap older e; is = ap newer e; unequal = d }

    only : Every (Differs size older newer) cs
    unfolding changes
    only j h = let r = in_range older newer (size / 8) 0 j h in rw r.is (word_differs r.word (omega arith) r.differs)

    each : (c : Change) → Differs size older newer c → Placed c cs
    unfolding changes
    each c d =
        let w = slot_of c in
        let t : w / 512 ≡ c.table = omega arith in
        let i : w % 512 ≡ c.entry = omega arith in
        let e : change_at older newer w ≡ c = rw (t, i, ← d.was, ← d.is) refl in
        rw e at (found older newer (size / 8) 0 w (omega arith) (omega arith) (λ s. d.unequal (rw (d.was, d.is) s)))

    rising : Ascending cs
    unfolding changes
    rising = ascending older newer (size / 8) 0

    once : (i j : ℕ) → i < length cs → j < length cs → nth cs i ≡ nth cs j → i ≡ j
    once i j hi hj e =
        elim (dec_le i j) [
          | yes l ↦ on_eq i j (λ s. s) (λ n. absurd (apart _ _ (rising i j (omega arith) hj) e))
          | no l ↦ absurd (apart _ _ (rising j i (omega arith) hi) (sym e))
        ]

    -- the words of the changes, and n zeros after them
    pub lists : (n : ℕ) → ListsChanges size older newer (length cs) (change_words cs ++ replicate n 0)
    lists n =
        record {
          only = λ c l. rw (← l.2, quadruple_at cs n l.0) (only l.0 l.1);
          each = λ c d. let p = each c d in (p.0, p.1, quadruple_at cs n p.0 ∙ p.2);
          once = λ i j hi hj e. once i j hi hj (sym (quadruple_at cs n i) ∙ e ∙ quadruple_at cs n j);
          ordered = λ i j h l. precedes _ _ _ _ (quadruple_at cs n i) (quadruple_at cs n j) (only j l).in_entries (rising i j h l);
          zeros = zeros_after cs n;
        }

    -- no word before the first page that differs
    none_before : 0 < length cs → (k : ℕ) → k < 512 * (nth cs 0).table → ¬ (older k ≡ newer k) → ⊥
    unfolding changes
    none_before h k l n =
        let p = found older newer (size / 8) 0 k (omega arith) (omega (arith, (only 0 h).in_table)) n in
        let e : slot_of (nth cs p.0) ≡ k = ap slot_of p.2 ∙ omega arith in
        on_eq p.0 0 (λ z. omega (arith, rw z at e)) (λ m. omega (arith, rising 0 p.0 (omega arith) p.1))

    pub first_differing : 0 < length cs → FirstPage size older newer (nth cs 0).table
    first_differing h =
        let d = only 0 h in
        record {
          inside = omega arith;
          differs = ((nth cs 0).entry, d.in_entries, λ e. d.unequal (d.was ∙ e ∙ sym d.is));
          first = λ k l. on_eq (older k) (newer k) (λ e. e) (λ n. absurd (none_before h k l n));
        }

-- ---- the part, by the first change

pub page_start_lem : (cs : List Change) → page_start cs ≡ 4096 * (nth cs 0).table
unfolding page_start
page_start_lem [] = refl
page_start_lem (c ∷ cs) = refl

pub page_length_lem : (cs : List Change) → 0 < length cs → page_length cs ≡ 4096
unfolding page_length
page_length_lem [] h = absurd (omega arith)
page_length_lem (c ∷ cs) h = refl

pub empty_part : (cs : List Change) → length cs ≡ 0 → (page_start cs ≡ 0) × (page_length cs ≡ 0)
unfolding page_start page_length
empty_part [] h = (refl, refl)
empty_part (c ∷ cs) h = absurd (omega arith)
