-- What a read gave stands after what was read before, which it leaves as it is.
use Rattle.std.proofs.Common.{◌≡◌, ℕ, ◌+◌, ◌-◌, ◌≤◌, List, ◌++◌, rules, arith, length, take, drop, slice_range, sym, ap, ◌∙◌, subst, le_refl, drop_at, length-take-le}
use Rattle.std.proofs.lemmas.Slice.{take-put_mid_below}
use Rattle.std.specs.Io.KnownBytes.{Consumes}
use Rattle.std.proofs.KnownBytes.{Consumes-trans}
use borrow.Rule.Slice.PartMut.{put_mid, post_of}
use lib.Seq.{take-add, take-append-le}
use Rattle.files.proofs.fill.Goals as goal

-- the first n + k of a list are the first n, which it has in common with another, and k more
take_more : (n k : ℕ) (old new : List ℕ) → take n new ≡ take n old → take n old ++ slice_range new n (n + k) ≡ take (n + k) new
take_more n k old new front =
    let same : n + k - n ≡ k = omega arith in
    ap (λ l. l ++ slice_range new n (n + k)) (sym front) ∙ ap (λ j. take n new ++ take j (drop n new)) same ∙ sym (take-add n k new)

-- what was put into the middle stands there
middle : (n room k : ℕ) (xs ys : List ℕ) → n ≤ length xs → k ≤ length ys → slice_range (put_mid n room xs ys) n (n + k) ≡ take k ys
middle n room k xs ys within fits =
    let same : n + k - n ≡ k = omega arith in
    let after = post_of n room xs in
    ap (take (n + k - n)) (drop_at (take n xs) (ys ++ after) n (length-take-le n xs within))
    ∙ ap (λ m. take m (ys ++ after)) same
    ∙ take-append-le k ys after fits

pub loop-n-preserved : goal.loop-n-preserved
loop-n-preserved g c =
    let n = c.loop-n.n in
    let k = c.in-Ok.more in
    let buf = c.loop-n.buf in
    let room = length buf - n in
    let given = c.read.new.buf in
    let within = c.loop-n.invariant.0 in
    let front = take-put_mid_below _ _ _ _ _ (le_refl _) within in
    let joined = take_more n k buf (put_mid n room buf given) front in
    let stands = ap (λ l. take n buf ++ l) (sym (middle n room k buf given within c.in-Ok.ensures.bound.0)) in
    let given_so_far = Consumes-trans _ _ _ _ _ c.loop-n.invariant.2 c.in-Ok.ensures.bytes.0 in
    (search rules, search rules, subst (Consumes _ _) (stands ∙ joined) given_so_far)
