-- The part of a comparison is as long as its answer says. Builds on Differences of crates/demands/proofs. Assumes nothing.
use mathlib.Core.Path.{◌≡◌, sym}
use mathlib.Core.List.{List, [], ◌∷◌}
use Prim.Native.Nat.{ℕ, ◌+◌, ◌≤◌}
use native.Mathlib.Decide.{ℕ_discrete}
use native.Mathlib.Omega.{arith}
use lib.ListN.{length, take, drop, length-take, length-drop}
use Rattle.definitions.specs.Words.{words_of}
use Rattle.definitions.specs.Compare.{Compared}
use Rattle.definitions.specs.Refusals.{number_of}
use Rattle.definitions.specs.declared.refusals.Error.{Error}
use Rattle.definitions.proofs.Numbering.{numbered}
use Rattle.demands.proofs.Differences as differences
use Rattle.compare.specs.Meaning.{compared, part_of}

part_size : (newer : List ℕ) (start size : ℕ) → start + size ≤ length newer → length (take size (drop start newer)) ≡ size
part_size newer start size h = omega (arith, length-take size (drop start newer), length-drop start newer)

module _ (older newer : List ℕ) (room : ℕ) where
  abbrev c : Compared
  c = compared older newer room

  inside : c.number ≡ 0 → Dec (c.count ≡ 0) → c.start + c.size ≤ length newer
  inside z (yes e) = let p = differences.no_page (length older) (words_of older) (length newer) (words_of newer) room z e in omega (arith, p.0, p.1)
  inside z (no n) =
      let p = differences.first_page (length older) (words_of older) (length newer) (words_of newer) room z (omega arith) in
      omega (arith, p.1, p.2, p.3.inside)

  pub sized : c.number ≡ 0 → length (part_of newer c) ≡ c.size
  sized z = part_size newer c.start c.size (inside z (ℕ_discrete c.count 0))

  -- a refusal has no part
  pub unsized : (e : Error) → number_of e ≡ c.number → 0 ≡ c.size
  unsized e q =
      let n = numbered e in
      sym (differences.refused_empty (length older) (words_of older) (length newer) (words_of newer) room (λ (z : c.number ≡ 0). omega arith)).3

-- four words from their parts
pub four : {a b c d a' b' c' d' : ℕ} → a ≡ a' → b ≡ b' → c ≡ c' → d ≡ d' → a ∷ b ∷ c ∷ d ∷ [] ≡ a' ∷ b' ∷ c' ∷ d' ∷ []
four p q r s = cc
