-- A pointer with what is below it, the entries of a table one by one, and the beginning.
-- Assumes nothing.
use Rattle.std.proofs.Common.{◌≡◌, ℕ, suc, ◌+◌, ◌-◌, ◌*◌, ◌/◌, ◌%◌, ◌^◌, ◌<◌, ◌≤◌, List, length, sym, refl, ap, ◌∙◌, subst, ap₂, mul-le-mul_right, suc-mul, div-add-mod', arith}
use native.Mathlib.Nat.{zero-mod}
use lib.Arith.{digits_mod}
use Rattle.definitions.specs.Words.{Mem, Tables, slot, mark, no_tables, words_of}
use Rattle.definitions.specs.Geometry.{root_height, span}
use Rattle.definitions.specs.Step.{Step, stopped, and_then, times}
use Rattle.definitions.specs.Pass1.{State, Act, perform, visit, walk_table}
use Rattle.definitions.proofs.Geometry.{SoundGeometry, span_pos, span_suc}
use Rattle.definitions.specs.declared.Moved.{Moved}
use Rattle.definitions.specs.declared.Refusal.{Refusal}
use Rattle.definitions.specs.declared.paging.Geometry.{Geometry}
use Rattle.moved.specs.View.{Held, Empty}
use Rattle.moved.specs.declared.Store.{Store}
use Rattle.moved.proofs.Leaves.{empty_leaves}
use Rattle.reached.specs.Held.{set_of}
use Rattle.reached.specs.declared.Reached.{Reached}
use Rattle.std.specs.Prelude.{Option, None, Some, Result, Ok, Err, MatchResult}
use Rattle.pass1.specs.declared.Plan.{Plan}
use Rattle.pass1.specs.declared.Walk.{Walk}
use Rattle.pass1.specs.declared.Unfinished.{Unfinished}
use Rattle.pass1.specs.declared.Spot.{Spot}
use Rattle.pass1.specs.declared.Task.TheVariants.{Skip, Leaf}
use Rattle.pass1.specs.Walks.{spot_in, act_at, view, outcome, LeavesHeld, plan_of, Told, Departs, walk_of, performed, Opens, Lies, AtHand, Visits, Walked, FirstWalked}
use Rattle.pass1.proofs.Moving.{Stops}

-- ---- where entries lie

-- one level down and back up
up : (l : ℕ) → 1 ≤ l → suc (l - 1) ≡ l
up l h = omega arith

pub lies_down : (g : Geometry) (l a : ℕ) → 1 ≤ l → Lies g l a → Lies g (suc (l - 1)) a
lies_down g l a h d = subst (λ (k : ℕ). Lies g k a) (sym (up l h)) d

-- an entry's span lies within its table's
pub inner : (i n : ℕ) → i < 512 → i * n + n ≤ 512 * n
inner i n h = subst (λ (k : ℕ). k ≤ 512 * n) (suc-mul i n) (mul-le-mul_right n h)

lies_at : (g : Geometry) (l a i : ℕ) → Lies g (suc l) a → i < 512 → Lies g l (a + i * span l)
lies_at g l a i d h =
    let q : ℕ = a / (512 * span l) in
    let z : q * (512 * span l) + a % (512 * span l) ≡ a = div-add-mod' a (512 * span l) in
    let w : a % (512 * span l) ≡ 0 = ap (λ (n : ℕ). a % n) (sym (span_suc l)) ∙ d.whole in
    let e : a + i * span l ≡ (q * 512 + i) * span l + 0 = omega arith in
    record {
      whole = ap (λ (n : ℕ). n % span l) e ∙ digits_mod (q * 512 + i) (span_pos l);
      low = omega (arith, inner i (span l) h, d.low, span_suc l);
    }

-- with the size as the code has it
pub lies_with : (g : Geometry) (l a i s : ℕ) → s ≡ span l → Lies g (suc l) a → i < 512 → Lies g l (a + i * s)
lies_with g l a i s e d h = subst (λ (n : ℕ). Lies g l (a + i * n)) (sym e) (lies_at g l a i d h)

-- no sum over a table's addresses wraps
pub lies_low : (g : Geometry) (l a : ℕ) → SoundGeometry g → Lies g (suc l) a → a + 512 * span l ≤ 2 ^ 63
lies_low g l a s d = omega (arith, d.low, span_suc l, s.word)

pub lies_root : (g : Geometry) → Lies g (suc g.top) 0
lies_root g = record { whole = zero-mod (span (suc g.top)); low = omega arith }

-- what was read at a word is at hand
pub at_hand : (n : ℕ) (g : Geometry) (x : Spot) (m : Mem) (k l s a : ℕ) → x ≡ spot_in m k l s a → 8 * k + 8 ≤ n → l ≤ g.top → s ≡ span l
    → Lies g l a → AtHand n g x
at_hand n g x m k l s a at f h e d = subst (AtHand n g) (sym at) (record { fits = f; level = h; size = e; lies = d })

-- ---- an entry and what is below

-- a refusal, with the store that the scratch holds
abbrev pub unfinished : Refusal → Store → Unfinished
unfinished r s = record { refusal = r; store = s }

module _ (ws : List ℕ) (p : Plan) (x : Spot) (m : Mem) (xs : List ℕ) (w : Walk) where
  abbrev down_of : ℕ → State → Step State
  down_of = walk_table (plan_of p ws (length xs)) x.level x.va

  abbrev does : Act → Step State
  does = perform (length xs / 3) down_of x.level x.va x.word (view m xs w)

  -- an entry that stays
  pub skip_visits : Told ws p x Skip → Held xs w.store → Visits ws p x m xs w m xs (Ok w)
  unfolding perform
  skip_visits told held = record { step = sym (ap does (told (length xs))); held = held; long = refl }

  -- a leaf that moves by o
  module _ (o : ℕ) (told : Told ws p x (Leaf o)) where
    -- it is refused; that the scratch holds the store is not asked
    pub leaf_stops : {r : Refusal} → Stops p.geometry x o m xs w.store r → stopped r ≡ performed ws p down_of x m xs w
    leaf_stops d = d.step (plan_of p ws (length xs)) refl (set_of w.reached) down_of ∙ sym (ap does (told.1 (length xs)))

    module _ (m' : Mem) (ys : List ℕ) where
      pub stored_visits : (t : Store) → Departs p.geometry x o m xs w.store m' ys (Ok t)
          → Visits ws p x m xs w m' ys (Ok (walk_of w.reached t))
      stored_visits t d = record {
        step = d.step (plan_of p ws (length xs)) refl (set_of w.reached) down_of ∙ sym (ap does (told.1 (length xs)));
        held = d.held;
        long = d.long;
      }

      -- u is what is made of a refusal
      pub refused_visits : (k : Result Store Refusal) → Departs p.geometry x o m xs w.store m' ys k → {u : Unfinished}
          → MatchResult k (λ t. ◌≡◌ {A = Result Store Unfinished} (Err u) (Ok t)) (λ r. u ≡ unfinished r w.store)
          → Visits ws p x m xs w m' ys (Err u)
      refused_visits (Ok t) d e = absurd (cc)
      refused_visits (Err r) d e = rw e (record { step = leaf_stops (record { step = d.step }); held = d.held; long = d.long })

  -- a pointer that is opened
  module _ (m' : Mem) (v' : Reached) where
    pub visits_done : Opens p x m w.reached m' v' (Ok None) → Held xs w.store → Visits ws p x m xs w m' xs (Ok (walk_of v' w.store))
    visits_done opens held = record { step = opens.step ws xs w.store down_of; held = held; long = refl }

    -- u is what is made of a refusal
    pub visits_refused : (k : Result (Option ℕ) Refusal) → Opens p x m w.reached m' v' k → Held xs w.store → {u : Unfinished}
        → MatchResult k (λ t. ◌≡◌ {A = Result (Option ℕ) Unfinished} (Err u) (Ok t)) (λ r. u ≡ unfinished r w.store)
        → Visits ws p x m xs w m' xs (Err u)
    visits_refused (Ok t) opens held e = absurd (cc)
    visits_refused (Err r) opens held e = rw e (record { step = opens.step ws xs w.store down_of; held = held; long = refl })

    pub visits_down : (t : ℕ) → Opens p x m w.reached m' v' (Ok (Some t)) → (m'' : Mem) (zs : List ℕ) (r : Result Walk Unfinished)
        → Walked ws p t (x.level - 1) x.va m' xs (walk_of v' w.store) m'' zs r → Visits ws p x m xs w m'' zs r
    visits_down t opens m'' zs r d = record {
      step = d.step
          ∙ ap (λ (l : ℕ). walk_table (plan_of p ws (length xs)) l x.va t (view m' xs (walk_of v' w.store))) (up x.level opens.fits.1)
          ∙ opens.step ws xs w.store down_of;
      held = d.held;
      long = d.long;
    }

-- ---- the entries of a table, one by one

-- what is done at entry i, with n words of scratch
abbrev turn_of : List ℕ → Plan → ℕ → ℕ → ℕ → ℕ → ℕ → State → Step State
turn_of ws p n t l a = λ i s. visit (plan_of p ws n) (λ b t' s''. walk_table (plan_of p ws n) l b t' s'') l a t i s

-- entry i, where the memory is m
abbrev pub entry_at : Mem → ℕ → ℕ → ℕ → ℕ → Spot
entry_at m t l a i = spot_in m (slot t i) l (span l) (a + i * span l)

-- what is left from entry i on, with the bytes, the scratch and the state as they are now, gives the whole
pub record Turning (ws : List ℕ) (p : Plan) (t l a : ℕ) (out₀ xs₀ : List ℕ) (w₀ : Walk) (out xs : List ℕ) (w : Walk) (i : ℕ) : Type 0 where
  pub low : i ≤ 512
  pub bytes : length out ≡ length out₀
  pub scratch : length xs ≡ length xs₀
  pub held : Held xs w.store
  pub step : times (512 - i) (turn_of ws p (length xs₀) t l a) i (view (words_of out) xs w)
      ≡ walk_table (plan_of p ws (length xs₀)) (suc l) a t (view (words_of out₀) xs₀ w₀)

pub begin : (ws : List ℕ) (p : Plan) (t l a : ℕ) (out₀ xs₀ : List ℕ) (w₀ : Walk) → Held xs₀ w₀.store
    → Turning ws p t l a out₀ xs₀ w₀ out₀ xs₀ w₀ 0
unfolding walk_table
begin ws p t l a out₀ xs₀ w₀ held = record { low = omega arith; bytes = refl; scratch = refl; held = held; step = refl }

module _ {ws : List ℕ} {p : Plan} {t l a : ℕ} {out₀ xs₀ : List ℕ} {w₀ : Walk} {out xs : List ℕ} {w : Walk} {i : ℕ}
    (turning : Turning ws p t l a out₀ xs₀ w₀ out xs w i) where
  pub over : 512 ≤ i → Walked ws p t l a (words_of out₀) xs₀ w₀ (words_of out) xs (Ok w)
  unfolding times
  over h =
      let none : 512 - i ≡ 0 = omega arith in
      record {
        step = ap (λ (n : ℕ). times n (turn_of ws p (length xs₀) t l a) i (view (words_of out) xs w)) (sym none) ∙ turning.step;
        held = turning.held;
        long = turning.scratch;
      }

  -- entry i is visited, and leaves the words m'
  module _ (h : i < 512) {x : Spot} (at : x ≡ entry_at (words_of out) t l a i) {m' : Mem} {ys : List ℕ} {r : Result Walk Unfinished}
      (visits : Visits ws p x (words_of out) xs w m' ys r) where
    abbrev turn : ℕ → State → Step State
    turn = turn_of ws p (length xs₀) t l a

    -- the entries after it
    abbrev later : State → Step State
    later s = times (512 - (i + 1)) turn (suc i) s

    turn_is : outcome m' ys r ≡ turn i (view (words_of out) xs w)
    unfolding visit
    turn_is =
        visits.step
        ∙ ap (λ (c : ℕ). perform (c / 3) (walk_table (plan_of p ws c) x.level x.va) x.level x.va x.word (view (words_of out) xs w)
        (act_at (plan_of p ws c) x)) turning.scratch
        ∙ ap (λ (y : Spot). perform (length xs₀ / 3) (walk_table (plan_of p ws (length xs₀)) y.level y.va) y.level y.va y.word
        (view (words_of out) xs w) (act_at (plan_of p ws (length xs₀)) y)) at

    rest : and_then (outcome m' ys r) later ≡ walk_table (plan_of p ws (length xs₀)) (suc l) a t (view (words_of out₀) xs₀ w₀)
    unfolding times
    rest =
        let more : 512 - i ≡ suc (512 - (i + 1)) = omega arith in
        ap (λ (z : Step State). and_then z later) turn_is
        ∙ ap (λ (n : ℕ). times n turn i (view (words_of out) xs w)) (sym more) ∙ turning.step

    pub stops : {e : Unfinished} → r ≡ Err e → Walked ws p t l a (words_of out₀) xs₀ w₀ m' ys (Err e)
    unfolding and_then
    stops {e} q =
        let at : and_then (outcome m' ys (Err e)) later ≡ walk_table (plan_of p ws (length xs₀)) (suc l) a t (view (words_of out₀) xs₀ w₀) = rw q at rest in
        record { step = at; held = subst (LeavesHeld ys) q visits.held; long = visits.long ∙ turning.scratch }

    pub again : {u : Walk} → r ≡ Ok u → (out' : List ℕ) → m' ≡ words_of out' → length out' ≡ length out → Turning ws p t l a out₀ xs₀ w₀ out' ys u (i + 1)
    unfolding and_then
    again {u} q out' e long =
        let next : i + 1 ≡ suc i = omega arith in
        let at : and_then (outcome m' ys (Ok u)) later ≡ walk_table (plan_of p ws (length xs₀)) (suc l) a t (view (words_of out₀) xs₀ w₀) = rw q at rest in
        record {
          low = omega arith;
          bytes = long ∙ turning.bytes;
          scratch = visits.long ∙ turning.scratch;
          held = subst (LeavesHeld ys) q visits.held;
          step = ap₂ (λ (n : ℕ) (m : Mem). times (512 - (i + 1)) turn n (view m ys u)) next (sym e) ∙ at;
        }

-- ---- the beginning

pub first_is : (ws : List ℕ) (p : Plan) (t : ℕ) (m : Mem) (xs : List ℕ) (w : Walk) (m' : Mem) (ys : List ℕ) (r : Result Walk Unfinished)
    → set_of w.reached ≡ mark no_tables t → Empty w.store → Walked ws p t p.geometry.top 0 m xs w m' ys r
    → FirstWalked ws p t m (length xs) m' ys r
first_is ws p t m xs w m' ys r es e d = record {
  step = d.step
      ∙ ap₂ (λ (y : Tables) (z : List Moved). walk_table (plan_of p ws (length xs)) (root_height p.geometry) 0 t (record { mem = m; reached = y; moved = z }))
      es (empty_leaves xs w.store e);
  held = d.held;
  long = d.long;
}
