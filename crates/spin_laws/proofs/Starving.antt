-- Turns of a schedule in which a call starves, where they are not obvious.
use Rattle.spin_laws.proofs.Names.{Test, Answer, State, occurs, false, ◌≡◌, ℕ, zero, suc, ◌≤◌, nat_lt, min, Bool, true, Some, None, List, [], ◌∷◌, refl, arith, Move, lt-ltb, to_read, most_starvers, Idle, Calling, Holding, Begin, Step, fair_machine, seats, seats_machine, MayStarve}
use Rattle.spin_laws.specs.Starving.{MayWaitWhere, WaitsBesideIdleStarver}
use Rattle.spin_step_more.specs.declared.fair_calls.FairPoint.{FairPoint}
use Rattle.spin_step_more.specs.declared.fair_calls.FairCall.{FairCall}
use Rattle.spin_laws.proofs.Around.{starves, forever_where}
use Rattle.spin_step.specs.Asks.{waits, waits_or_starves}
use Rattle.spin_step.specs.declared.place.Hold.TheVariants as hold
use Rattle.spin_step_more.specs.declared.fair_calls.FairCall.TheVariants as fair
use Rattle.spin_step_more.specs.declared.fair_calls.FairPoint.TheVariants as fair_point
use Rattle.spin_seats.specs.declared.calls.SeatsCall.TheVariants as seats_call
use Rattle.spin_seats.specs.declared.calls.SeatsPoint.TheVariants as seats_point

module _ {V : Type 0} (v : V) (cap patience : ℕ) where
  -- party 1 is a starver, and idle
  abbrev idle_starver : List (ℕ × Move FairCall V)
  idle_starver = (1, Begin fair.Starve) ∷ (1, Step) ∷ (1, Step) ∷ (0, Begin fair.Lock) ∷ []

  -- beside it party 0 looks for ever
  abbrev beside : State ℕ V FairCall FairPoint
  beside = record { words = 2; value = Some v; seats = Calling fair.Lock (fair_point.Attempt 0) None ∷ Holding hold.Starver ∷ [] }

  pub forever : (test : ℕ → Test V FairCall FairPoint (Answer V)) → occurs (fair_machine v cap patience) (test 0) beside ((0, Step) ∷ (0, Step) ∷ []) ≡ false → 1 ≤ cap
      → MayWaitWhere WaitsBesideIdleStarver test (fair_machine v cap patience) 2 (waits_or_starves patience)
  forever test none some =
      let room : nat_lt 0 (min cap most_starvers) ≡ true = lt-ltb 0 (min cap most_starvers) (omega (arith, some)) in
      forever_where (fair_machine v cap patience) WaitsBesideIdleStarver test 2 idle_starver beside (grind (arith, room))
      (0, Step) ((0, Step) ∷ []) fair.Lock (fair_point.Attempt 0) None refl (refl, refl, none) (grind (arith, room), 1, grind (arith, room))

-- before each exchange of party 0 the other party takes a seat or leaves; if there are no seats, nobody enters
pub seats_starve : (n : ℕ) → MayStarve (seats_machine n) 2 (waits to_read)
seats_starve zero =
    starves (seats_machine 0) 2 ((0, Begin seats_call.Enter) ∷ []) _ refl (0, Step) [] seats_call.Enter seats_point.First None refl (refl, refl, refl)
seats_starve (suc n) = by_room (nat_lt 1 (seats (suc n))) refl
  where
    first : nat_lt 0 (seats (suc n)) ≡ true
    first = lt-ltb 0 (seats (suc n)) (omega arith)

    by_room : (b : Bool) → nat_lt 1 (seats (suc n)) ≡ b → MayStarve (seats_machine (suc n)) 2 (waits to_read)
    by_room b more =
        starves (seats_machine (suc n)) 2 ((0, Begin seats_call.Enter) ∷ (0, Step) ∷ []) (record { words = 0; value = Some tt; seats = Calling seats_call.Enter (seats_point.Exchange 0) None ∷ Idle ∷ [] }) (grind (arith, first))
        (1, Begin seats_call.TryEnter) ((1, Step) ∷ (1, Step) ∷ (0, Step) ∷ (1, Begin seats_call.Leave) ∷ (1, Step) ∷ (0, Step) ∷ []) seats_call.Enter (seats_point.Exchange 0) None refl
        (grind (arith, first, more), grind (arith, first, more), grind (arith, first, more))
