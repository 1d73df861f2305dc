-- The loop that lists the differences: after k words the list begins with the changes among them.
-- Assumes nothing.
use mathlib.Core.Path.{◌≡◌, refl, sym, ap, ap₂, ◌∙◌}
use mathlib.Core.List.{List, [], ◌∷◌, ◌++◌}
use Prim.Native.Nat.{ℕ, suc, ◌+◌, ◌*◌, ◌/◌, ◌%◌, ◌≤◌, ◌<◌}
use native.Mathlib.Omega.{arith}
use lib.ListN.{length, set, take, length-append}
use lib.Seq.{sets, sets-eq, length-sets, take_at, length-take-le}
use Rattle.definitions.specs.Words.{Mem}
use Rattle.definitions.specs.Compare.{Change, change_at, changes_from, change_words}
use Rattle.definitions.proofs.Compare.{changes_same, changes_differ, changes_fewer, words_append}

-- four stores in a row
pub stored : (xs : List ℕ) (i a b c d : ℕ) → set (set (set (set xs i a) (i + 1) b) (i + 2) c) (i + 3) d ≡ sets xs i (a ∷ b ∷ c ∷ d ∷ [])
stored xs i a b c d =
    let e₁ : i + 1 ≡ suc i = omega arith in
    let e₂ : i + 2 ≡ suc (suc i) = omega arith in
    let e₃ : i + 3 ≡ suc (suc (suc i)) = omega arith in
    rw (e₁, e₂, e₃) refl

module _ (older newer : Mem) (room : ℕ) where
  pub record Come (list : List ℕ) (count k : ℕ) : Type 0 where
    pub long : length list ≡ room
    pub counted : count ≡ length (changes_from k 0 older newer)
    pub fits : 4 * count ≤ room
    pub there : take (4 * count) list ≡ change_words (changes_from k 0 older newer)

  pub begins : (list : List ℕ) → length list ≡ room → Come list 0 0
  unfolding changes_from change_words
  begins list l = record { long = l; counted = refl; fits = omega arith; there = refl }

  -- at word k, where b and a are read
  module _ {list : List ℕ} {count k b a : ℕ} (c : Come list count k) (eb : b ≡ older k) (ea : a ≡ newer k) where
    pub same : b ≡ a → Come list count (k + 1)
    same e =
        let s = sym (changes_same older newer k (sym eb ∙ e ∙ ea)) in
        record { long = c.long; counted = c.counted ∙ ap length s; fits = c.fits; there = c.there ∙ ap change_words s }

    -- the changes so far, and the one at word k
    abbrev done : List Change
    done = changes_from k 0 older newer

    abbrev new : List Change
    new = change_at older newer k ∷ []

    differ : ¬ (b ≡ a) → changes_from (k + 1) 0 older newer ≡ done ++ new
    differ n = changes_differ older newer k (λ e. n (eb ∙ e ∙ sym ea))

    one_more : ¬ (b ≡ a) → length (changes_from (k + 1) 0 older newer) ≡ length done + 1
    one_more n = ap length (differ n) ∙ length-append done new

    abbrev four : List ℕ
    four = k / 512 ∷ k % 512 ∷ b ∷ a ∷ []

    pub more : {after : List ℕ} → ¬ (b ≡ a) → 4 * count + 4 ≤ room → after ≡ sets list (4 * count) four → Come after (count + 1) (k + 1)
    unfolding change_words
    more {after} n h e =
        let l = one_more n in
        let front : length (take (4 * count) list ++ four) ≡ 4 * (count + 1) =
        length-append (take (4 * count) list) four
        ∙ ap (λ (m : ℕ). m + 4) (length-take-le (4 * count) list (omega (arith, c.long))) ∙ omega arith in
        record {
          long = ap length e ∙ length-sets list (4 * count) four ∙ c.long;
          counted = omega (arith, c.counted);
          fits = omega arith;
          there = ap (take (4 * (count + 1))) (e ∙ sets-eq four list (4 * count) (omega (arith, c.long)))
              ∙ take_at _ _ _ front
              ∙ ap₂ (λ (ws vs : List ℕ). ws ++ vs) c.there (rw (eb, ea) refl)
              ∙ sym (ap change_words (differ n) ∙ words_append done new);
        }

    pub stops : ¬ (b ≡ a) → room < 4 * count + 4 → (m : ℕ) → k < m → room < 4 * length (changes_from m 0 older newer)
    stops n h m l =
        let d = one_more n in
        let f = changes_fewer older newer (k + 1) m (omega arith) in
        omega (arith, c.counted)

  -- at the end
  pub ends : {list : List ℕ} {count k : ℕ} → Come list count k → (m : ℕ) → k ≡ m
      → (count ≡ length (changes_from m 0 older newer)) × (length list ≡ room) × (take (4 * count) list ≡ change_words (changes_from m 0 older newer))
  ends {list} {count} c m e =
      let s = ap (λ (j : ℕ). changes_from j 0 older newer) e in
      (c.counted ∙ ap length s, c.long, c.there ∙ ap change_words s)
