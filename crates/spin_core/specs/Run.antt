-- What ties a lock on threads to a model. The lock's trace is a schedule of the model, and leads to the views of the
-- lock's parties.
use Rattle.std.specs.Prelude.{◌≡◌, ℕ, ◌+◌, Bool, true, false, Option, Some, None, List, [], ◌∷◌, ◌++◌, length, map, replicate}
use Rattle.std.specs.List.{list_all}
use Rattle.spin_step.specs.declared.place.Seat.{Seat}
use Rattle.spin_step.specs.declared.place.Seat.TheVariants.{Idle}
use Rattle.spin_step.specs.declared.schedule.Move.{Move}
use Rattle.spin_step.specs.declared.schedule.Move.TheVariants.{Begin, Step, Weak, Write}
use Rattle.spin_step.specs.declared.schedule.Outcome.{Outcome}
use Rattle.spin_step.specs.declared.schedule.Outcome.TheVariants.{Skipped}
use Rattle.spin_step.specs.Machines.{Machine}
use Rattle.spin_step.specs.Schedules.{State, Entry, after, at_first, happens}
pub use Rattle.spin_core.specs.Cell.{OnWord, by_first, by_second}

-- The move begins a call, is a step of one, or writes a value. On threads no exchange fails spuriously. Only where
-- closures make the value is there a move `Weak`: it says that a closure has failed.
abbrev pub is_of_call : {W V C L A : Type 0} → Machine W V C L A → Move C V → Bool
is_of_call m move = elim move [ Begin c ↦ true | Step ↦ true | Weak ↦ m.lock_kind.makes_value | Write v ↦ true | _ ↦ false ]

-- the move was not skipped
abbrev pub is_played : {V A : Type 0} → Outcome A V → Bool
is_played o = elim o [ Skipped ↦ false | _ ↦ true ]

module _ {W V C L A : Type 0} (m : Machine W V C L A) where
  -- the outcomes of a schedule's entries
  abbrev pub outcomes_of : State W V C L → List (Entry C V) → List (Outcome A V)
  outcomes_of s [] = []
  outcomes_of s (e ∷ es) = (happens m s e.0 e.1).outcome ∷ outcomes_of (happens m s e.0 e.1).next es

  -- each entry of the schedule is a move as in `is_of_call`
  abbrev pub AreOfCalls : List (Entry C V) → Type 0
  AreOfCalls schedule = list_all (λ e. is_of_call m e.1) schedule ≡ true

  -- in each world with at least `least` parties, no entry of the schedule is skipped
  abbrev pub IsPlayed : ℕ → List (Entry C V) → Type 0
  IsPlayed least schedule = (more : ℕ) → list_all is_played (outcomes_of (at_first m (least + more)) schedule) ≡ true

  -- The entries `es` are these moves, made by one party. Played after `log` they have these outcomes, in each world of
  -- the model with enough parties. No entry of `log` or `es` is skipped there.
  abbrev pub AreOwn : List (Move C V) → List (Outcome A V) → List (Entry C V) → List (Entry C V) → Type 0
  AreOwn own outs log es = (p least : ℕ) × (es ≡ map (λ move. (p, move)) own) × IsPlayed least (log ++ es) × ((more : ℕ) → outcomes_of (after m (at_first m (least + more)) log) es ≡ outs)

  module _ {X S : Type 0} (seat_of : X → Seat C L) (words_of : W → ℕ × S) where
    -- the party's seat in the model; a party that has left is idle
    abbrev pub sits : Option X → Seat C L
    sits view = elim view [ None ↦ Idle | Some v ↦ seat_of v ]

    -- the schedule leads to these words and this value, with each party in its seat; all further seats are idle
    abbrev pub LeadsTo : List (Entry C V) → W → Option V → List (Option X) → Type 0
    LeadsTo schedule w value came = (more : ℕ) → after m (at_first m (length came + more)) schedule ≡ record { words = w; value = value; seats = map sits came ++ replicate more Idle }

    -- a world with this one party
    abbrev pub alone : W → Option V → Seat C L → State W V C L
    alone w value seat = record { words = w; value = value; seats = seat ∷ [] }

    abbrev pub of_one : List (Move C V) → List (Entry C V)
    of_one own = map (λ move. (0, move)) own

    -- From the words w a party with the view `view` can make moves that lead to the view u and the words s. Each move
    -- is one as in `is_of_call`, and none is skipped. P holds of the moves and their outcomes.
    abbrev pub Goes : Option X → X → W → Option V → (ℕ × S) → (List (Move C V) → List (Outcome A V) → Type 0) → Type 0
    Goes view u w value s P =
        (own : List (Move C V)) × (outs : List (Outcome A V)) × P own outs × (list_all (is_of_call m) own ≡ true) × (list_all is_played outs ≡ true) × (w' : W) × (now : Option V)
        × (after m (alone w value (sits view)) (of_one own) ≡ record { words = w'; value = now; seats = seat_of u ∷ [] }) × (outcomes_of (alone w value (sits view)) (of_one own) ≡ outs) × (words_of w' ≡ s)

    -- Take any words, and any next view for which `then` holds of the number that the step finds. The party has moves
    -- that lead to this view and to the words after the step. What `says` states holds of these moves.
    abbrev pub AreMoves : Option X → OnWord S → (ℕ → X → Type 0) → (List (Move C V) → List (Outcome A V) → ℕ → X → Type 0) → Type 0
    AreMoves view step then says = (w : W) (value : Option V) (u : X) → let s = words_of w in then (step.1 s) u
        → Goes view u w value (step.0 s) (λ own outs. says own outs (step.1 s) u)
