-- The output that holds the image and then zeros, from what copying and filling bytes give.
-- Assumes nothing.
use mathlib.Core.Path.{◌≡◌, refl, ap, ap₂, ◌∙◌}
use mathlib.Core.List.{List, ◌++◌}
use Prim.Native.Nat.{ℕ, ◌-◌, ◌≤◌}
use native.Mathlib.Nat.{zero-add}
use native.Mathlib.Omega.{arith}
use lib.ListN.{length, take, drop, replicate, length-append, length-drop, length-replicate}
use lib.Seq.{paste, take-length, take_at, drop_at}

-- d with the image s copied to its front, and then zeros from there on
pub image_then_zeros : (d s mid bytes : List ℕ) → length s ≤ length d → mid ≡ paste d 0 s (length s)
    → bytes ≡ take (length s) mid ++ replicate (length (drop (length s) mid)) 0
    → bytes ≡ s ++ replicate (length d - length s) 0
image_then_zeros d s mid bytes fits e f =
    let front : mid ≡ s ++ drop (length s) d = e ∙ ap₂ (λ (xs : List ℕ) (k : ℕ). xs ++ drop k d) (take-length s) (zero-add (length s)) in
    f
    ∙ ap₂ (λ (xs ys : List ℕ). xs ++ replicate (length ys) 0) (ap (take (length s)) front ∙ take_at s (drop (length s) d) (length s) refl)
    (ap (drop (length s)) front ∙ drop_at s (drop (length s) d) (length s) refl)
    ∙ ap (λ (k : ℕ). s ++ replicate k 0) (length-drop (length s) d)

pub cleared_length : (d : List ℕ) (n : ℕ) → length d ≤ n → length (d ++ replicate (n - length d) 0) ≡ n
cleared_length d n h = length-append d (replicate (n - length d) 0) ∙ omega (arith, length-replicate {A = ℕ} (n - length d) 0)
