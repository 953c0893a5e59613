-- What a party with a number knows of its own calls, and of the trace, from one call to the next.
use Rattle.std.specs.Prelude.{◌≡◌, ℕ, ◌+◌, Bool, true, false, Option, None, List, [], ◌∷◌, ◌++◌, replicate, ◌==◌, if◌then◌else◌}
use Rattle.std.specs.Option.{MatchOption, unwrap_or}
use Rattle.spin_step.specs.declared.answer.Answer.{Answer}
use Rattle.spin_step.specs.declared.schedule.Move.{Move}
use Rattle.spin_step.specs.declared.schedule.Move.TheVariants.{Begin, Step, Write}
use Rattle.spin_step.specs.declared.schedule.Outcome.{Outcome}
use Rattle.spin_step.specs.declared.schedule.Outcome.TheVariants.{Begun, GoingOn, Answered, Written}
use Rattle.spin_step.specs.Machines.{Machine}
use Rattle.spin_step.specs.Schedules.{State, Entry, after, at_first, happens}
use Rattle.spin_core.specs.Run.{IsPlayed}
use Rattle.spin_core.specs.Own.{Numbered, MadeNone, by_party, entries_by}
pub use Rattle.spin_core.specs.Own.{own_mark}

-- the party has this number
abbrev pub HasNumber : {X : Type 0} → ℕ → Option (Numbered X) → Type 0
HasNumber p view = MatchOption view ⊥ (λ u. p ≡ u.1)

-- the party is in no call, and holds nothing: it is new, or has the idle view
abbrev pub IsOut : {X : Type 0} → X → Option X → Type 0
IsOut idle view = unwrap_or view idle ≡ idle

-- the outcome of a move in a lock of values of type V
abbrev pub Ending : Type 0 → Type 0
Ending V = Outcome (Answer V) V

-- what a step says, of four things: its moves, their outcomes, the number found, and the party's next view
abbrev pub Says : (V C A X : Type 0) → Type 1
Says V C A X = List (Move C V) → List (Outcome A V) → ℕ → X → Type 0

-- which moves a party makes, and their outcomes
abbrev pub Course : (V C A : Type 0) → Type 1
Course V C A = List (Move C V) → List (Outcome A V) → Type 0

module _ {V C A : Type 0} where
  -- the course without moves
  abbrev pub Nothing : Course V C A
  Nothing own outs = (own ≡ []) × (outs ≡ [])

  -- the course of steps after which the call still waits
  abbrev pub Waits : Course V C A
  Waits own outs = (n : ℕ) × (own ≡ replicate n Step) × (outs ≡ replicate n GoingOn)

  -- the course of waiting steps, and then a step that answers the call
  abbrev pub Ends : A → Course V C A
  Ends a own outs = (n : ℕ) × (own ≡ replicate n Step ++ Step ∷ []) × (outs ≡ replicate n GoingOn ++ Answered a None ∷ [])

  -- the course that begins this call, and then goes on as P
  abbrev pub Begins : C → Course V C A → Course V C A
  Begins c P own outs = (rest : List (Move C V)) × (comes : List (Outcome A V)) × (own ≡ Begin c ∷ rest) × (outs ≡ Begun ∷ comes) × P rest comes

  -- the course that writes this value, and then goes on as P
  abbrev pub Writes : V → Course V C A → Course V C A
  Writes x P own outs = (rest : List (Move C V)) × (comes : List (Outcome A V)) × (own ≡ Write x ∷ rest) × (outs ≡ Written ∷ comes) × P rest comes

  -- the course that writes some value that satisfies Q, and then goes on as P
  abbrev pub WritesSome : (V → Type 0) → Course V C A → Course V C A
  WritesSome Q P own outs = (x : V) × Q x × Writes x P own outs

  -- the course of a whole call, which ends with this answer
  abbrev pub IsCall : C → A → Course V C A
  IsCall c a = Begins c (Ends a)

  -- The course of one step with this outcome. If the Bool is true, the call has begun before. If it is false, the call
  -- begins and makes its first step.
  abbrev pub IsOneStep : Bool → C → Outcome A V → Course V C A
  IsOneStep true c end own outs = (own ≡ Step ∷ []) × (outs ≡ end ∷ [])
  IsOneStep false c end own outs = (own ≡ Begin c ∷ Step ∷ []) × (outs ≡ Begun ∷ end ∷ [])

  -- what a play says of one step of a call (`IsOneStep`): the number found decides the outcome and the next view
  abbrev pub says_step : {X : Type 0} → Bool → C → (ℕ → Outcome A V) → (ℕ → X) → Says V C A X
  says_step goes_on c end to own outs n v = (v ≡ to n) × IsOneStep goes_on c (end n) own outs

module _ {W V C L A : Type 0} (m : Machine W V C L A) where
  -- the outcomes of the entries that one party made in this schedule
  abbrev pub outcomes_by : ℕ → State W V C L → List (Entry C V) → List (Outcome A V)
  outcomes_by p s [] = []
  outcomes_by p s (e ∷ es) = let h = happens m s e.0 e.1 in if e.0 == p then h.outcome ∷ outcomes_by p h.next es else outcomes_by p h.next es

  -- The trace was `old`, and now is `new`. In between the party has made exactly these moves, with these outcomes. No
  -- entry of `new` is skipped.
  abbrev pub Did : ℕ → List (Entry C V) → List (Entry C V) → List (Move C V) → List (Outcome A V) → Type 0
  Did p old new own outs =
      (more : List (Entry C V)) × (least : ℕ) × (new ≡ old ++ more) × (entries_by p more ≡ by_party p own) × IsPlayed m least new
      × ((k : ℕ) → outcomes_by p (after m (at_first m (least + k)) old) more ≡ outs)

  -- A party had the view `view` and knew the entries `old`, none of which it made after its last step. Now it has the
  -- view `view'` and knows `new`. In between it has made exactly the moves of this course.
  abbrev pub Made : {X : Type 0} → Option (Numbered X) → List (Entry C V) → Option (Numbered X) → List (Entry C V) → Course V C A → Type 0
  Made view old view' new P = (p : ℕ) × MadeNone old p view × HasNumber p view' × (own : List (Move C V)) × (outs : List (Outcome A V)) × Did p old new own outs × P own outs
