-- `Plan::move_leaf` meets its contract: two tests that refuse, and then what the store answers to the leaf with its new address.
-- No loop.
-- Past both tests `away` gathers what they and the calls gave; the laws of Moving turn it, with the store's answer, into the act.
-- Assumes nothing.
use Rattle.pass1.proofs.Moving.{Away, moves_odd, moves_past, moves_in, moves_refused}
use Rattle.pass1.specs.Walks.{MoveFits}
use Rattle.pass1.specs.declared.Spot.{Spot}
use Rattle.moved.specs.declared.Store.{Store}
use Rattle.entry.specs.Kinds.{SetsField}
use Rattle.definitions.specs.declared.paging.Geometry.{Geometry}
use Rattle.definitions.specs.Ranges.{shifted}
use Rattle.definitions.specs.Geometry.{span}
use Rattle.definitions.proofs.Geometry.{span_pos, span_mono, span_mask}
use Rattle.definitions.proofs.Offset.{shifted_whole}
use Rattle.std.proofs.lemmas.List.{append-nil}
use Rattle.std.proofs.Math.Seq.{take-length, drop-length}
use Rattle.std.proofs.Common.{◌≡◌, refl, ℕ, ◌+◌, ◌-◌, ◌%◌, ◌^◌, ◌<◌, ◌≤◌, List, sym, ap, ◌∙◌, arith, rules}
use lib.Bits.{bit_and}
use Rattle.definitions.specs.declared.refusals.Error.{Error}
use Rattle.definitions.specs.Inputs.{refusal_at}
use Rattle.std.proofs.lemmas.Grind.{common_steps}
use Rattle.std.specs.Prelude.{Ok}
use Rattle.std.proofs.lemmas.Result.{err_from_is_err_and, MatchResult-weaker}
use Rattle.pass1.proofs.Plan.move_leaf.Goals as goal

-- ---- what is asked for, of an entry x, an offset o and what their sum gives
module _ {n : ℕ} {xs : List ℕ} {g : Geometry} {x : Spot} {f : ℕ} {s : Store} (p : MoveFits n xs g x f s) where
  some : 0 < x.size
  some = omega (arith, p.hand.size, span_pos x.level)

  -- an entry's addresses are not more than lie below the bound
  below : x.size ≤ g.limit
  below = omega (arith, p.hand.size, span_mono x.level _ p.hand.level, p.geometry.spans)

  module _ (o : ℕ) where
    remainder : bit_and o (x.size - 1) ≡ o % span x.level
    remainder = ap (λ (k : ℕ). bit_and o (k - 1)) p.hand.size ∙ span_mask x.level o

    module _ {to : ℕ} (sum : to ≡ (x.va + o) % 2 ^ 64) where
      far : g.limit - x.size < to → g.limit < shifted x.va o + span x.level
      unfolding shifted
      far h = omega (arith, p.hand.size, sum, h)

      -- the new address is of whole spans, and fits the field
      aligned : o % span x.level ≡ 0 → to % span x.level ≡ 0
      unfolding shifted
      aligned h = ap (λ (k : ℕ). k % span x.level) sum ∙ shifted_whole x.level x.va o p.low p.hand.lies.whole h

      away : bit_and o (x.size - 1) ≡ 0 → to ≤ g.limit - x.size → (v : ℕ) → SetsField f x.entry to v → Away g x o to v
      unfolding shifted
      away h low v word =
          let whole : o % span x.level ≡ 0 = sym remainder ∙ h in
          let fits : to < 2 ^ 52 = omega (arith, some, low, below, p.geometry.field) in
          record {
            whole = whole;
            low = omega (arith, p.hand.size, sum, below, low);
            to = sum;
            word = word (span x.level) p.field (aligned whole) fits;
          }

-- ---- the goals
pub overflow_sub-rest : goal.overflow_sub-rest
overflow_sub-rest c = let h = some c.requires in omega (arith, h)

pub returns-then-rest-ne0 : goal.returns-then-rest-ne0
returns-then-rest-ne0 c =
    -- asked of the scratch as it is then, so that an edit which writes there falls by what it wrote
    moves_odd (search (rules, take-length, drop-length, append-nil)) (search rules)
    (λ h. c.if-rest-ne0.true (remainder c.requires c.args.offset ∙ h)) c.with_offset.ensures

pub overflow_sub-self : goal.overflow_sub-self
overflow_sub-self c = below c.requires

pub returns-then-self-size : goal.returns-then-self-size
returns-then-self-size c =
    let whole = sym (remainder c.requires c.args.offset) ∙ c.if-rest-ne0.false in
    moves_past c.requires.held refl whole (far c.requires c.args.offset refl c.if-self-size.true)
    c.with_offset-then-self-size.ensures

pub returns-in_err-more : goal.returns-in_err-more
returns-in_err-more c =
    let x = c.args.spot in
    let to = away c.requires c.args.offset {to = (x.va + c.args.offset) % 2 ^ 64} refl in
    let gone = to c.if-rest-ne0.false c.if-self-size.false _ c.with_field-word.ensures in
    let p = err_from_is_err_and c.from_residual.result c.from_residual.ensures.1 in
    let Placed : Error → Type 0 = λ e. c.in_err-more.field-0.0 ≡ refusal_at e x.va x.level in
    let cases =
    MatchResult-weaker c.remember-kept.result {Q' = Placed} c.in_err-more.ensures.cases (λ t h. h) (λ e h. search rules) in
    rw (p.1, p.2) (moves_refused gone c.requires.held c.remember-kept.ensures cases)

pub returns : goal.returns
returns c =
    let x = c.args.spot in
    let to = away c.requires c.args.offset {to = (x.va + c.args.offset) % 2 ^ 64} refl in
    let gone = to c.if-rest-ne0.false c.if-self-size.false _ c.with_field-word.ensures in
    let is : c.remember-kept.result ≡ Ok c.in_ok-more.more = grind (arith, common_steps) in
    moves_in gone (rw is at c.remember-kept.ensures) c.write_word.ensures.0
