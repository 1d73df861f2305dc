-- The bytes of an accepted build's output: their words are the words that demand 3 speaks of (output_words, words_in), so its
-- walks are walks in the buffer (after_in, reads_in_lem); the used length is whole tables within the region (used_whole,
-- used_inside). Builds on Both. Assumes nothing.
use Prim.Native.Nat.{ℕ, ◌+◌, ◌*◌, ◌/◌, ◌%◌, ◌^◌, ◌≤◌, ◌<◌}
use mathlib.Core.Path.{◌≡◌, refl, ap, ◌∙◌}
use mathlib.Core.List.{List, Memᴰ}
use mathlib.Core.Logic.{⊎_elim}
use native.Mathlib.Decide.{dec_le}
use native.Mathlib.Omega.{arith}
use lib.ListN.{length}
use Rattle.definitions.specs.Words.{words_of, bytes_of}
use Rattle.definitions.specs.Geometry.{span}
use Rattle.definitions.specs.Entry.{fresh_table}
use Rattle.definitions.specs.Inputs.{Job}
use Rattle.definitions.specs.Ranges.{kind, table_address, used_tables, all_tables}
use Rattle.definitions.specs.Pass1.{Act, keep, move, follow, refuse}
use Rattle.definitions.specs.Build.{geometry, height, root, plan_of, build, output_bytes}
use Rattle.definitions.specs.Walk.{reads, walk}
use Rattle.definitions.specs.Demand.{Proper, after, reads_after, entry_before, act_at, remains}
use Rattle.definitions.specs.declared.Moved.{Moved}
use Rattle.definitions.proofs.Entry.{address_word, leaf_word}
use Rattle.definitions.proofs.Splits.{on_bool}
use Rattle.definitions.proofs.Ranges.{region_sound}
use Rattle.definitions.proofs.Acts.{Means, act_means}
use Rattle.definitions.proofs.Words.{length_bytes}
use Rattle.definitions.proofs.Buffers.{words_bytes}
use Rattle.demands.proofs.Pass2.Leaf.{Puts}
use Rattle.demands.proofs.Both.Sound.{paging, plan_is, moved_pointer, new_table}
use Rattle.demands.proofs.Both.Bridge.{moved, old}
use Rattle.demands.proofs.Both.Outcome.{Ran, accepts, accepted_used, accepted_output}
use Rattle.demands.proofs.Both.Left.{used_fits}

module _ (j : Job) (proper : Proper j) (R : Ran j (build j)) where
  -- what pass 1 leaves
  remains_word : (l p e : ℕ) → e < 2 ^ 64 → remains (act_at j l p e) e < 2 ^ 64
  unfolding remains
  remains_word l p e w = turn (act_at j l p e) (act_means (plan_of j) l (p * span l) e)
    where
      turn : (a : Act) → Means (plan_of j) l (p * span l) e a → remains a e < 2 ^ 64
      turn keep m = w
      turn (move x) m = omega arith
      turn (follow t v) m =
          let s = moved_pointer j proper R.good l e t (rw (plan_is j).old at m.0) in
          rw (m.2, (plan_is j).offset) (address_word e _ s.2 s.3 w)
      turn (refuse n q) m = w

  pass1_entry : (t i : ℕ) → i < 512 → R.s.mem (512 * t + i) < 2 ^ 64
  pass1_entry t i hi =
      let w = proper.image (512 * t + i) in
      on_bool (R.s.reached t)
      (λ e. rw ((R.fixed.unread t e).1 i hi) w)
      (λ e. let c = R.fixed.way t e in rw (R.fixed.entries t c.0 c.1 i c.2 hi) (remains_word c.0 (c.1 * 512 + i) (j.image (512 * t + i)) w))

  pass1_word : (k : ℕ) → R.s.mem k < 2 ^ 64
  pass1_word k = let e : 512 * (k / 512) + k % 512 ≡ k = omega arith in rw e at (pass1_entry (k / 512) (k % 512) (omega arith))

  -- what pass 2 writes
  puts_word : (x : Moved) → Memᴰ x R.s.moved → (l v : ℕ) → Puts (paging j) x (used_tables j.region) R.f.next l v → v < 2 ^ 64
  unfolding fresh_table table_address entry_before
  puts_word x e l v p =
      let o = R.fixed.sound x e in
      let d = old j o.0 x (moved j x o) in
      ⊎_elim
      (λ c. rw (c.1, d.entry) (leaf_word x.level (entry_before j o.0) x.address d.low d.whole d.field (proper.image _)))
      (λ c. rw c.4 (omega (arith, new_table j proper R.good c.1 (omega (arith, c.3, R.filled.fits (used_fits j R.good))))))
      p

  word : (k : ℕ) → R.f.mem k < 2 ^ 64
  word k =
      elim (dec_le (512 * used_tables j.region) k) [
        | yes h ↦ ⊎_elim (λ e. rw e (omega arith)) (λ c. puts_word c.0 c.1 c.2 _ c.3) (R.filled.news k h)
        | no h ↦ ⊎_elim (λ e. rw e (pass1_word k)) (λ c. puts_word c.0 c.1 _ _ c.2.what) (R.filled.words k (omega arith))
      ]

  -- past the end of the output, and in a word that it cuts, there is nothing
  past : (k : ℕ) → j.output_length < 8 * k + 8 → R.f.mem k ≡ 0
  unfolding all_tables
  past k h =
      let a = region_sound (geometry j).limit j.region R.good.region in
      R.filled.good.free k (omega (arith, R.good.output, a.size, (plan_is j).size, R.filled.fits (used_fits j R.good)))

pub output_words : (j : Job) → Proper j → (build j).report.number ≡ 0 → words_of (output_bytes j) ≡ (build j).output
unfolding output_bytes
output_words j proper zero_number =
    let R = accepts j proper zero_number in
    rw (accepted_output j R) (words_bytes j.output_length R.f.mem (word j proper R) (past j proper R))

pub output_length_lem : (j : Job) → length (output_bytes j) ≡ j.output_length
unfolding output_bytes bytes_of
output_length_lem j = length_bytes j.output_length 0 (build j).output

-- of a proper job that is accepted, and bytes equal to its output's
module _ (j : Job) (proper : Proper j) (yes : (build j).report.number ≡ 0) (out : List ℕ) (same : out ≡ output_bytes j) where
  -- their words are those that demand 3 speaks of
  pub words_in : words_of out ≡ (build j).output
  words_in = ap words_of same ∙ output_words j proper yes

  -- its walks are walks in these bytes
  pub after_in : (a : ℕ) → after j a ≡ walk (kind (plan_of j).new) (height j) (words_of out) (root j) a
  unfolding after
  after_in a = rw words_in refl

  -- and so are the tables that they read
  pub reads_in_lem : (a : ℕ) → reads_after j a ≡ reads (kind (plan_of j).new) (height j) (words_of out) (root j) a
  unfolding reads_after
  reads_in_lem a = rw words_in refl

-- the new used length is whole tables, within the region, and that within the output
module _ (j : Job) (proper : Proper j) (yes : (build j).report.number ≡ 0) where
  R : Ran j (build j)
  R = accepts j proper yes

  pub used_whole : (build j).report.used % 4096 ≡ 0
  used_whole = omega (arith, accepted_used j R)

  pub used_inside : ((build j).report.used ≤ j.region.size) × (j.region.size ≤ j.output_length)
  unfolding all_tables
  used_inside = (omega (arith, accepted_used j R, (plan_is j).size, R.filled.fits (used_fits j R.good)), R.good.output)
