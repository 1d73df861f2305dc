-- Bytes that are all zero, and whether they are.
-- Assumes nothing.
use Rattle.std.proofs.Common.{◌≡◌, ◌≢◌, ◌<◌, ℕ, List, Bool, true, false, cond, ◌&&◌, eqb, length, refl, arith}
use Rattle.std.specs.Bool.{Decides, MatchBool}
use Rattle.std.specs.List.{All, AllWithin, HoldsAt}
use Rattle.std.proofs.lemmas.Bool.Decides.{same_from_decides, Decides-by_and, Decides-eqb}
use Rattle.tables.specs.Meaning.{all_zero}

both : (b s : Bool) → cond b s false ≡ (b && s)
both true s = refl
both false s = refl

told : (xs : List ℕ) (r : Bool)
    → MatchBool r (AllWithin (λ x. x ≡ 0) xs 0 (length xs)) ((k : ℕ) × (k < length xs) × HoldsAt (λ x. x ≢ 0) xs k)
    → Decides r (All (λ x. x ≡ 0) xs)
told xs true h = (λ e k d l. h k d (omega arith) l, λ a. refl)
told xs false h = (λ e. cc, λ a. absurd (h.2 0 (a h.0 0 h.1)))

-- r says whether each byte is 0
pub zeros : (xs : List ℕ) (r : Bool)
    → MatchBool r (AllWithin (λ x. x ≡ 0) xs 0 (length xs)) ((k : ℕ) × (k < length xs) × HoldsAt (λ x. x ≢ 0) xs k)
    → r ≡ all_zero xs
unfolding all_zero
zeros xs r h =
    same_from_decides r (all_zero xs) (told xs r h)
    (Decides-by_and (λ x. eqb x 0) (λ x. x ≡ 0) all_zero (λ x. Decides-eqb x 0) refl (λ x ys. both (eqb x 0) (all_zero ys)) xs)
