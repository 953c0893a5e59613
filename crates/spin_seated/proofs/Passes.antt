-- A pass before and after a step of its seat.
use Rattle.std.specs.List.{range_with_len}
use Rattle.std.proofs.Common.{◌≡◌, ◌+◌, ◌-◌, ◌<◌, suc, map, arith, ℕ, List, [], ◌∷◌, take, drop, Option, Some, ap, ◌∙◌}
use Rattle.atomic_table.specs.declared.shared.Seat.{Seat}
use mathlib.Core.Option.{none}
use Rattle.atomic_table.specs.Seated.{TableId}
use Rattle.atomic_table.specs.Table.{Step, Me, Allows, step}
use Rattle.spin_seated.specs.declared.lock.Opening.{Opening}
use Rattle.spin_seated.specs.declared.lock.Answer.{Answer}
use Rattle.spin_seated.specs.Histories.{PlainObject, newcomer, holds, One, Two, OneHistory, IsTracked, Met, Turned, held_then, Tells, Shows, OwesAlways}
use Rattle.spin_seated.specs.Passes.{KnownOf, Seated, seated_of, first_of_view, IsOneSeat}
use Rattle.spin_seated.proofs.Histories.{after_step}
use Rattle.spin_seated.proofs.Keeping.{allows}

module _ {S C H : Type 0} (m : PlainObject Opening S C Answer H) where
  -- The seat of a pass whose value is v.
  module _ (o : Option (Seat ℕ (List (KnownOf C)))) (s : Seat ℕ (List (KnownOf C))) (v : Seated C) (is : o ≡ Some s) (one : IsOneSeat o) (view : seated_of o ≡ v) where
    pub its_table : s.table_id ≡ v.table
    its_table = grind (arith, is, view)

    pub its_view : s.me ≡ (v.known ∷ [], [])
    its_view = grind (arith, is, one, view)

    -- the table lets the pass make a step, if the lock shows what `OwesAlways` asks of that step
    pub may_step : IsTracked m → (t : TableId) (k : Opening) (i a b : ℕ) (f : ℕ → ℕ) (told : ℕ → ℕ → Option (C × Answer)) → (v.table ≡ t) × (v.known.opening ≡ k) → i < 2 → t.words ≡ 2 → OwesAlways m v.known i f (told a)
        → (s.table_id ≡ t) × (i < t.words) × Allows (OneHistory m k) t.slots s.id s.me i f (Tells m told (step t.slots i a b none) s.me)
    may_step tracked t k i a b f told own below two owes = (its_table ∙ own.0, omega (arith, below, two), allows m tracked k t.slots s.id s.me v.known i f (step t.slots i a b none) told its_view own.1 owes)

    -- a seat that satisfies `One` has exactly one pass, and P holds of it
    one_of : (P : KnownOf C → Type 0) (w : List (KnownOf C)) → One P w → (w ≡ first_of_view w ∷ []) × P (first_of_view w)
    one_of P w h = grind arith

    pub turned : IsTracked m → (t : Option (C × Answer)) (me : Me ℕ (List (KnownOf C))) → One (λ x. One (λ y. Turned m t x y) me.0) s.me.0 × (me.1 ≡ s.me.1) → holds m (first_of_view me.0) ≡ held_then m t (holds m v.known)
    turned tracked t me tells = grind (arith, its_view, one_of, after_step)

  -- Two passes that meet: the seat of both before and after its step, and the two seats afterwards.
  module _ (st : Step ℕ) (x y : KnownOf C) (found : ℕ) (before me of_x of_y : Me ℕ (List (KnownOf C))) where
    two_of : (P : KnownOf C → KnownOf C → Type 0) (w : List (KnownOf C)) → Two P w → (u : KnownOf C) × (v : KnownOf C) × (w ≡ u ∷ v ∷ []) × P u v
    two_of P w h = grind arith

    pub record Meeting : Type 0 where
      pub seat_of_x : of_x ≡ (first_of_view of_x.0 ∷ [], [])
      pub seat_of_y : of_y ≡ (first_of_view of_y.0 ∷ [], [])
      pub first : Met m x (first_of_view of_x.0).seen (first_of_view of_x.0)
      pub second : Met m y (first_of_view of_x.0).seen (first_of_view of_y.0)

    pub meeting : before ≡ (y ∷ x ∷ [], []) → Shows m st before found me → of_x ≡ (drop 1 me.0, me.1) → of_y ≡ (take 1 me.0, []) → Meeting
    meeting was shown left right = grind (arith, was, shown, left, right, two_of)

range-first : (a n : ℕ) → a < n → range_with_len a (n - a) ≡ a ∷ range_with_len (a + 1) (n - (a + 1))
range-first a n below = let e : n - a ≡ suc (n - (a + 1)) = omega arith in ap (range_with_len a) e

module _ {C : Type 0} where
  -- A seat with the passes from a to n - 1 gives up the first of them.
  module _ (k : Opening) (a n : ℕ) (below : a < n) (before me own : Me ℕ (List (KnownOf C))) (was : before ≡ (map (newcomer k) (range_with_len a (n - a)), [])) where
    pub kept_rest : me ≡ (drop 1 before.0, before.1) → me ≡ (map (newcomer k) (range_with_len (a + 1) (n - (a + 1))), [])
    kept_rest is = grind (arith, is, was, range-first a n)

    pub given_first : own ≡ (take 1 before.0, []) → own ≡ (newcomer k a ∷ [], [])
    given_first is = grind (arith, is, was, range-first a n)
