-- A party that is in no call of a `Once` gets into a call only by a move that begins one.
use Rattle.std.proofs.Common.{◌≡◌, ℕ, Bool, true, false, Option, Some, List, [], ◌∷◌, map, slice_get, slice_set, refl, arith}
use Rattle.spin_step.specs.declared.answer.Answer.{Answer}
use Rattle.spin_step.specs.declared.once_calls.OnceCall.{OnceCall}
use Rattle.spin_step.specs.declared.place.Hold.{Hold}
use Rattle.spin_step.specs.declared.place.Seat.{Seat}
use Rattle.spin_step.specs.declared.place.Seat.TheVariants.{Calling}
use Rattle.spin_step.specs.declared.schedule.Move.TheVariants.{Begin, Step, Weak}
use Rattle.spin_step.specs.declared.stepped.Next.{Next}
use Rattle.spin_step.specs.Schedules.{State, Happened, after, moves_at, goes_on, placed, seen_by_owner}
use Rattle.spin_once.specs.Model.{Point, model}
use Rattle.spin_once.specs.Once.{OneMove}

abbrev pub Call : Type 0
Call = OnceCall (Unit {0})

abbrev pub World : Type 0
World = State ℕ (Unit {0}) Call Point

-- the moves that change a party's point in a call
abbrev pub is_step : OneMove → Bool
is_step (Begin c) = true
is_step Step = true
is_step Weak = true
is_step _ = false

abbrev pub rests : Option (Seat Call Point) → Bool
rests (Some (Calling c l h)) = false
rests _ = true

rests_set : (xs : List (Seat Call Point)) (q p : ℕ) (y : Seat Call Point) → (q ≡ p → rests (Some y) ≡ true) → rests (slice_get xs p) ≡ true → rests (slice_get (slice_set xs q y) p) ≡ true
rests_set [] q p y new is = is
rests_set (x ∷ xs) q p y new is = grind (arith, rests_set xs, new, is)

rests_seen : (xs : List (Seat Call Point)) (p : ℕ) → rests (slice_get xs p) ≡ true → rests (slice_get (map seen_by_owner xs) p) ≡ true
rests_seen [] p is = is
rests_seen (x ∷ xs) p is = grind (arith, rests_seen xs, is)

module _ (given : Option (Unit {0})) (s : World) (q p : ℕ) (is : rests (slice_get s.seats p) ≡ true) where
  abbrev RestsAfter : Happened ℕ (Unit {0}) Call Point (Answer (Unit {0})) → Type 0
  RestsAfter after = rests (slice_get after.next.seats p) ≡ true

  rests_on : (w : ℕ) (value : Option (Unit {0})) (c : Call) (h : Option Hold) (next : Next Point (Answer (Unit {0}))) → (q ≡ p → ⊥) → RestsAfter (goes_on (record s { words = w; value = value }) q c h next)
  rests_on w value c h next ne = grind (arith, is, ne, rests_set s.seats q p)

  pub rests_after : (move : OneMove) (o : Option (Seat Call Point)) → (is_step move ≡ true → q ≡ p → ⊥) → RestsAfter (moves_at (model given) s q move o)
  rests_after Step (Some (Calling c l h)) ne = let st = (model given).step s.words s.value c l h in rests_on st.words (placed st.placed s.value) c h st.next (ne refl)
  rests_after move o ne = grind (arith, is, ne, rests_set s.seats q p, rests_seen s.seats p)
