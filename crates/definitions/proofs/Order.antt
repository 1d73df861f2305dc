-- Laws of the order of places: it is an order, and in pass 1 an entry is before those under it and a table's entries are in order
-- (earlier_under, earlier_next). What is first has the lowest address, and of those with it the highest level (first_lowest,
-- in_way_lowest); what is wrong has its number (shape), and what is in the way of pass 2 is a condition of refusal (in_way_bad); room and
-- tables that are used up exactly are enough for 15 and 19 (wrong_full, no_table_left). Assumes nothing.
use mathlib.Core.Path.{◌≡◌, refl}
use mathlib.Core.List.Memᴰ
use mathlib.Core.List.{List, ◌∷◌, Memᴰ}
use mathlib.Core.Logic.{◌⊎◌, inl, inr, ⊎_elim}
use Prim.Native.Nat.{ℕ, suc, ◌+◌, ◌*◌, ◌<◌, ◌≤◌}
use native.Mathlib.Nat.{mul-le-mul_right}
use native.Mathlib.Decide.{dec_le}
use native.Mathlib.Omega.{arith}
use lib.ListN.{length}
use Rattle.definitions.specs.Words.{Mem}
use Rattle.definitions.specs.Geometry.{span, part}
use Rattle.definitions.specs.Inputs.{Place, place_at, Job}
use Rattle.definitions.specs.Ranges.{Kind, used_tables, all_tables}
use Rattle.definitions.specs.Pass1.{Moved, Act, keep, move, follow, refuse}
use Rattle.definitions.specs.Demand.{Met, place_of, stop_before, Moves, TablePlace, Distinct}
use Rattle.definitions.specs.Conditions.{BadPlaces, no_room}
use Rattle.definitions.specs.Order.{Earlier, Before, done_at, MovesBefore, Free, Wrong, refused, to_root, to_same, taken, full, First}
use Rattle.definitions.specs.Order.{NeededBefore, InWay, stands, no_table, FirstInWay}
use Rattle.definitions.proofs.Geometry.{span_suc, span_pos}

pub earlier_trans : (p q r : Place) → Earlier p q → Earlier q r → Earlier p r
earlier_trans p q r a b =
    ⊎_elim (λ h. ⊎_elim (λ k. inl (omega arith)) (λ k. inl (omega arith)) b) (λ h. ⊎_elim (λ k. inl (omega arith)) (λ k. inr (omega arith, omega arith)) b) a

-- no place is earlier than itself
pub earlier_other : (p q : Place) → p.level ≡ q.level → p.address ≡ q.address → ¬ Earlier p q
earlier_other p q el ea a = ⊎_elim (λ h. omega arith) (λ h. omega arith) a

-- the address is the lowest, and the level the highest of that address
abbrev pub NotAfter : Place → Place → Type 0
NotAfter p q = (p.address ≤ q.address) × (p.address ≡ q.address → q.level ≤ p.level)

not_after : (p q : Place) → ¬ Earlier q p → NotAfter p q
not_after p q n = (
  elim (dec_le p.address q.address) [ yes h ↦ h | no h ↦ absurd (n (inl (omega arith))) ],
  λ e. elim (dec_le q.level p.level) [ yes h ↦ h | no h ↦ absurd (n (inr (omega arith, omega arith))) ],
)

pub not_after_one : (p q : Place) → NotAfter p q → NotAfter q p → (p.level ≡ q.level) × (p.address ≡ q.address)
not_after_one p q a b =
    let e : p.address ≡ q.address = omega (arith, a.0, b.0) in
    (omega (arith, a.1 e, b.1 (omega arith)), e)

-- ---- entries

-- the place of an entry of level l that maps part p
abbrev pub entry_at : (l p : ℕ) → Place
entry_at l p = place_at (p * span l) l

-- entry i of the table that an entry of level suc l leads to comes after that entry
under_from : (l p i : ℕ) → p * span (suc l) ≤ (p * 512 + i) * span l
under_from l p i = rw (span_suc l) (omega arith)

pub earlier_under : (l p i : ℕ) → Earlier (entry_at (suc l) p) (entry_at l (p * 512 + i))
earlier_under l p i =
    elim (dec_le ((p * 512 + i) * span l) (p * span (suc l))) [ yes h ↦ inr (omega (arith, under_from l p i), omega arith) | no h ↦ inl (omega arith) ]

-- the entries of a table
pub from_mono : (l p i j : ℕ) → i ≤ j → (p * 512 + i) * span l ≤ (p * 512 + j) * span l
from_mono l p i j h = mul-le-mul_right (span l) (omega arith)

pub earlier_next : (l p i j : ℕ) → i < j → Earlier (entry_at l (p * 512 + i)) (entry_at l (p * 512 + j))
earlier_next l p i j h = inl (omega (arith, from_mono l p (suc i) j h, span_pos l))

-- where a table's addresses end
pub table_end : (l p i : ℕ) → i < 512 → suc (p * 512 + i) * span l ≤ suc p * span (suc l)
table_end l p i h = let w : suc (p * 512 + i) * span l ≤ (p * 512 + 512) * span l = mul-le-mul_right (span l) (omega arith) in rw (span_suc l) (omega arith)

pub entry_end : (l p : ℕ) → p * span l < suc p * span l
entry_end l p = omega (arith, span_pos l)

-- ---- the first that is wrong in pass 1
module _ (read : ℕ → ℕ → Kind) (m : Mem) (h₀ t₀ : ℕ) (does : ℕ → ℕ → ℕ → Act) where
  abbrev Entry : Type 0
  Entry = Met read m h₀ t₀

  -- a leaf before `e` goes where `x` goes
  abbrev pub TakenBefore : Met read m h₀ t₀ → Moved → Type 0
  TakenBefore e x =
      (b : Entry) × (y : Moved) × Before read m h₀ t₀ b e × (done_at read m h₀ t₀ does b ≡ move y) × (y.address ≡ x.address)

  -- what is wrong, by what is done
  abbrev pub Shape : Met read m h₀ t₀ → ℕ → Place → Act → Type 0
  Shape e n q keep = ⊥
  Shape e n q (refuse n₁ q₁) = (n ≡ n₁) × (q ≡ q₁)
  Shape e n q (follow t v) = (n ≡ 10) × (q ≡ place_of e)
  Shape e n q (move x) = (q ≡ place_of e) × (((n ≡ 14) × TakenBefore e x) ⊎ ((n ≡ 15) × Free read m h₀ t₀ does e x.address))

  module _ (room : ℕ) where
    pub shape : (e : Met read m h₀ t₀) (n : ℕ) (q : Place) → Wrong read m h₀ t₀ does room e n q → Shape e n q (done_at read m h₀ t₀ does e)
    shape e n q (refused w) = rw w (refl, refl)
    shape e n q (to_root w z) = rw w (refl, z)
    shape e n q (to_same w b r wb z) = rw w (refl, z)
    shape e n q (taken {y = y} w b r wb ea z) = rw w (z, inl (refl, (b, y, r, wb, ea)))
    shape e n q (full w free xs d from h z) = rw w (z, inr (refl, free))

    -- as many leaves as there is room for are enough for 15
    pub wrong_full : (e : Met read m h₀ t₀) (x : Moved) → done_at read m h₀ t₀ does e ≡ move x → Free read m h₀ t₀ does e x.address
        → (xs : List Moved) → Distinct xs → ((y : Moved) → Memᴰ y xs → MovesBefore read m h₀ t₀ does e y) → length xs ≡ room
        → Wrong read m h₀ t₀ does room e 15 (place_of e)
    wrong_full e x w free xs d from h = full w free xs d from (omega arith) refl

    pub first_lowest : (n : ℕ) (q : Place) (f : First read m h₀ t₀ does room n q) (e : Met read m h₀ t₀) (n' : ℕ) (q' : Place)
        → Wrong read m h₀ t₀ does room e n' q' → NotAfter (place_of f.entry) (place_of e)
    first_lowest n q f e n' q' w = not_after (place_of f.entry) (place_of e) (λ lo. f.none e lo n' q' w)

-- ---- the first in the way of pass 2

pub in_way_lowest : {j : Job} {n n' : ℕ} {q q' : Place} → FirstInWay j n q → InWay j n' q' → NotAfter q q'
in_way_lowest {n' = n'} {q} {q'} f w = not_after q q' (λ lo. f.none n' q' lo w)

-- the table on the way to address a that an entry of level l is to lead to
abbrev pub table_place : (l a : ℕ) → TablePlace
table_place l a = record { height = l; part = part l a }

-- a table that is not needed before, and those that are, are distinct
pub one_more : (j : Job) (q : Place) (p : TablePlace) (ps : List TablePlace) → ¬ NeededBefore j q p → Distinct ps
    → ((p' : TablePlace) → Memᴰ p' ps → NeededBefore j q p') → Distinct (p ∷ ps)
one_more j q p ps new d need = (λ e. new (need p e), d)

-- as many tables as are free are enough for 19
pub no_table_left : {j : Job} {b l : ℕ} {x : Moved} → Moves j b x → x.level < l → l ≤ (stop_before j x.address).level
    → ((n : ℕ) → BadPlaces j n (place_at x.address l) → n ≡ 19) → ¬ NeededBefore j (place_at x.address l) (table_place l x.address)
    → (ps : List TablePlace) → Distinct ps → ((p : TablePlace) → Memᴰ p ps → NeededBefore j (place_at x.address l) p)
    → used_tables j.region + length ps ≡ all_tables j.region → InWay j 19 (place_at x.address l)
no_table_left m lo le other new ps d need h = no_table m lo le refl other new ps d need (omega arith)

-- what is in the way is a condition of refusal
pub in_way_bad : {j : Job} {n : ℕ} {q : Place} → InWay j n q → BadPlaces j n q
in_way_bad (stands b n) = b
in_way_bad {j} {q = q} (no_table {b} {l} {x} m lo le eq other new ps d need h) =
    rw eq
    (no_room m lo le (table_place l x.address ∷ ps) (one_more j q _ ps new d need)
    (λ p e. ⊎_elim
    (λ w. rw w (record { from = b; leaf = x; moves = m; above = lo; way = refl; missing = le }))
    (λ w. (need p w).need)
    (Memᴰ.cases_cons e))
    (omega arith))
