-- The task at an entry, and the cases of a leaf that moves, each from the facts that the code's tests give.
-- Assumes nothing.
use Rattle.std.proofs.Common.{◌≡◌, ℕ, ◌+◌, ◌/◌, ◌%◌, ◌<◌, ◌≤◌, true, false, leb, List, length, sym, ap, ◌∙◌, subst}
use Rattle.std.proofs.Common.{arith, le-ltb, lt-ltb, eq-eqb, ne_eqb}
use Rattle.definitions.specs.Words.{Mem, Tables, put}
use Rattle.definitions.specs.Geometry.{span}
use Rattle.definitions.specs.Entry.{present, pointer, with_leaf_address}
use Rattle.definitions.specs.Inputs.{place_at, refusal_at, refusal_with}
use Rattle.definitions.specs.declared.refusals.Error.{Error}
use Rattle.std.specs.Prelude.{Option, None, Some, Result, Ok, Err, MatchResult}
use Rattle.definitions.specs.Ranges.{shifted, kind, kind_of, decide, deciding, ranges_of, shift}
use Rattle.definitions.specs.Step.{Step, go, stopped, unless, and_then}
use Rattle.definitions.specs.Pass1 as D
use Rattle.definitions.specs.Pass1.{State, taken, remember, move_act, leaf_act, kind_act, act, perform}
use Rattle.definitions.specs.declared.Moved.{Moved}
use Rattle.definitions.specs.declared.Place.{Place}
use Rattle.definitions.specs.declared.Refusal.{Refusal}
use Rattle.definitions.specs.declared.paging.Geometry.{Geometry}
use Rattle.definitions.proofs.Pass1.{act_absent, act_stay}
use Rattle.definitions.proofs.Step.{unless_then}
use Rattle.definitions.proofs.Kind.{leaf_low}
use Rattle.moved.specs.View.{leaf, leaves_of, kept_step, Held, Keeps}
use Rattle.moved.specs.declared.Store.{Store}
use Rattle.ranges.specs.Lists.{says_of, says, Looks, LookupFits}
use Rattle.pass1.specs.declared.Plan.{Plan}
use Rattle.pass1.specs.declared.Spot.{Spot}
use Rattle.pass1.specs.declared.Task.TheVariants.{Skip, Leaf}
use Rattle.pass1.specs.Walks.{state_of, plan_of, Told, TaskFits, Departs}

-- ---- the task

pub looks_fit : (ws : List ℕ) (p : Plan) (x : Spot) → TaskFits ws p x → LookupFits ws p.old x.size x.va
looks_fit ws p x h =
    let g = h.plan.geometry in
    let r = h.plan.old in
    record {
      leaf = omega (arith, h.size, h.lies.low, g.word);
      region = omega (arith, r.end, g.field);
      some = omega (arith, r.some);
      list = h.list;
    }

module _ (p : Plan) (ws : List ℕ) (x : Spot) where
  pub told_absent : present x.entry ≡ false → Told ws p x Skip
  told_absent h n = act_absent (plan_of p ws n) x.level x.va x.entry h

  module _ (here : present x.entry ≡ true) (points : pointer x.level x.entry ≡ false) (size : x.size ≡ span x.level)
      (s : Option ℕ) (looks : Looks ws p.old p.offset x.size x.va s) where
    decided : decide (deciding p.old p.offset (ranges_of ws)) x.level x.va ≡ says_of s
    unfolding decide
    decided = sym (looks ∙ ap (λ (n : ℕ). says p.old p.offset x.va n (ranges_of ws)) size)

    pub told_stay : s ≡ None → Told ws p x Skip
    told_stay q n = act_stay (plan_of p ws n) x.level x.va x.entry here points (decided ∙ ap says_of q)

    pub told_by : (o : ℕ) → s ≡ Some o → Told ws p x (Leaf o)
    unfolding act kind kind_of kind_act leaf_act
    told_by o q =
        let d : decide (deciding p.old p.offset (ranges_of ws)) x.level x.va ≡ shift o = decided ∙ ap says_of q in
        (leaf_low x.level x.entry points, λ n. rw (here, points, d))

-- ---- a leaf that moves by o

-- 12 and 13 do not apply; b is the new address, and v the word with it
pub record Away (g : Geometry) (x : Spot) (o b v : ℕ) : Type 0 where
  pub whole : o % span x.level ≡ 0
  pub low : shifted x.va o + span x.level ≤ g.limit
  pub to : b ≡ shifted x.va o
  pub word : v ≡ with_leaf_address x.level x.entry b

-- the leaf y is remembered among others, or refused at a place
abbrev remembering : ℕ → List Moved → Place → Moved → Step (List Moved)
remembering room ms q y = unless (taken y.address ms) 14 q (unless (leb room (length ms)) 15 q (go (remember y ms)))

remembering_then : (room : ℕ) (ms : List Moved) (q : Place) (y : Moved) (f : List Moved → Step State)
    → and_then (remembering room ms q y) f ≡ unless (taken y.address ms) 14 q (unless (leb room (length ms)) 15 q (f (remember y ms)))
unfolding and_then
remembering_then room ms q y f = unless_then _ 14 q _ f ∙ ap (unless (taken y.address ms) 14 q) (unless_then _ 15 q _ f)

-- where it is refused
abbrev place : Spot → Place
place x = place_at x.va x.level

-- the entry is cleared, and these leaves are taken out
abbrev cleared : Spot → Mem → Tables → List Moved → Step State
cleared x m reached ms = go (record { mem = put m x.word 0; reached = reached; moved = ms })

-- the leaf's act, performed, ends so, whatever is reached
abbrev Acts : Geometry → Spot → ℕ → Mem → List ℕ → Store → (Tables → Step State) → Type 0
Acts g x o m xs s ends =
    (p : D.Plan) → p.geometry ≡ g → (reached : Tables) (down : ℕ → State → Step State)
    → ends reached ≡ perform (length xs / 3) down x.level x.va x.word (state_of m xs reached s) (move_act p x.level x.va x.entry o)

-- the leaf is refused; that the scratch holds the store is not asked
pub record Stops (g : Geometry) (x : Spot) (o : ℕ) (m : Mem) (xs : List ℕ) (s : Store) (r : Refusal) : Type 0 where
  pub step : Acts g x o m xs s (λ reached. stopped r)

module _ {g : Geometry} {x : Spot} {o : ℕ} {m : Mem} {xs : List ℕ} {s : Store} where
  pub odd_stops : (o % span x.level ≡ 0 → ⊥) → {r : Refusal} → r ≡ refusal_with Error.UnalignedOffset x.va x.level o
      → Stops g x o m xs s r
  unfolding move_act perform
  odd_stops h e = rw e (record { step = λ p q reached down. rw (ne_eqb (o % span x.level) 0 h) })

  pub past_stops : o % span x.level ≡ 0 → g.limit < shifted x.va o + span x.level
      → {r : Refusal} → r ≡ refusal_with Error.OutOfBounds x.va x.level o → Stops g x o m xs s r
  unfolding move_act perform
  past_stops h f e = rw e (record { step = λ p q reached down. rw (q, eq-eqb (o % span x.level) 0 h, lt-ltb _ _ f) })

-- so, where the scratch holds what it held
module _ {g : Geometry} {x : Spot} {o : ℕ} {m : Mem} {xs ys : List ℕ} {s : Store} (held : Held ys s) (long : length ys ≡ length xs) where
  still_held : {r : Refusal} → Stops g x o m xs s r → Departs g x o m xs s m ys (Err r)
  still_held stops = record { step = stops.step; held = held; long = long }

  pub moves_odd : (o % span x.level ≡ 0 → ⊥) → {r : Refusal} → r ≡ refusal_with Error.UnalignedOffset x.va x.level o
      → Departs g x o m xs s m ys (Err r)
  moves_odd h e = still_held (odd_stops h e)

  pub moves_past : o % span x.level ≡ 0 → g.limit < shifted x.va o + span x.level
      → {r : Refusal} → r ≡ refusal_with Error.OutOfBounds x.va x.level o → Departs g x o m xs s m ys (Err r)
  moves_past h f e = still_held (past_stops h f e)

module _ {g : Geometry} {x : Spot} {o b v : ℕ} (away : Away g x o b v)
    {xs : List ℕ} {s : Store} {ys : List ℕ} {k : Result Store Error} (keeps : Keeps xs s (leaf b x.level v) ys k) where
  -- what the store answered, and then the entry cleared, is the act
  acted : (m : Mem) → Acts g x o m xs s (λ reached. and_then (kept_step (place x) k ys) (cleared x m reached))
  unfolding move_act perform
  acted m p q reached down =
      ap (λ (z : Step (List Moved)). and_then z (cleared x m reached)) (keeps.step (place x))
      ∙ remembering_then (length xs / 3) (leaves_of xs s) (place x) (leaf b x.level v) (cleared x m reached)
      ∙ rw (away.word, away.to, q, eq-eqb (o % span x.level) 0 away.whole, le-ltb _ _ away.low)

-- the leaf is taken out
pub moves_in : {g : Geometry} {x : Spot} {o b v : ℕ} → Away g x o b v → {xs : List ℕ} {s : Store} {ys : List ℕ} {t : Store}
    → Keeps xs s (leaf b x.level v) ys (Ok t) → {m m' : Mem} → m' ≡ put m x.word 0 → Departs g x o m xs s m' ys (Ok t)
unfolding and_then
moves_in {x = x} away {ys = ys} {t = t} keeps {m} c =
    record {
      step = λ p q reached down. ap (λ (z : Mem). go (state_of z ys reached t)) c ∙ acted away keeps m p q reached down;
      held = keeps.kept;
      long = keeps.long;
    }

-- the store refuses it, for anything
pub refused_stops : {g : Geometry} {x : Spot} {o b v : ℕ} → Away g x o b v → {xs : List ℕ} {s : Store} {ys : List ℕ} {k : Result Store Error}
    → Keeps xs s (leaf b x.level v) ys k → {m : Mem} {r : Refusal}
    → MatchResult k (λ t. ◌≡◌ {A = Result Store Refusal} (Err r) (Ok t)) (λ e. r ≡ refusal_at e x.va x.level) → Stops g x o m xs s r
unfolding and_then
refused_stops away {k = Ok t} keeps e = absurd (cc)
refused_stops away {k = Err d} keeps {m} e = rw e (record { step = acted away keeps m })

-- so, and the scratch holds what it held
pub moves_not : {g : Geometry} {x : Spot} {o b v : ℕ} → Away g x o b v → {xs : List ℕ} {s : Store} → Held xs s → {ys : List ℕ} {e : Error}
    → Keeps xs s (leaf b x.level v) ys (Err e) → {m : Mem} {r : Refusal} → r ≡ refusal_at e x.va x.level → Departs g x o m xs s m ys (Err r)
moves_not away {s = s} held keeps e =
    still_held (subst (λ (z : List ℕ). Held z s) (sym keeps.kept) held) keeps.long (refused_stops away keeps e)

-- so, whatever it is refused for
pub moves_refused : {g : Geometry} {x : Spot} {o b v : ℕ} → Away g x o b v → {xs : List ℕ} {s : Store} → Held xs s
    → {ys : List ℕ} {k : Result Store Error} → Keeps xs s (leaf b x.level v) ys k → {m : Mem} {r : Refusal}
    → MatchResult k (λ t. ◌≡◌ {A = Result Store Refusal} (Err r) (Ok t)) (λ e. r ≡ refusal_at e x.va x.level) → Departs g x o m xs s m ys (Err r)
moves_refused away held {k = Ok t} keeps e = absurd (cc)
moves_refused away held {k = Err d} keeps e = moves_not away held keeps e
