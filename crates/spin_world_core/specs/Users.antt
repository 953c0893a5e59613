-- Laws that users of a lock rely on, over whole schedules.
use Rattle.spin_step.specs.declared.place.Seat.TheVariants.{Calling}
use Rattle.spin_world_core.specs.Runs.{state_at}
use Rattle.spin_world_core.specs.Runs.{Schedule}
use Rattle.std.specs.Prelude.{◌≡◌, ℕ, ◌+◌, Bool, true, false, not, ◌&&◌, ◌||◌, Option, Some, None, [], ◌∷◌, ◌++◌, ◌==◌, slice_get}
use Rattle.spin_step.specs.Plain.{Change}
use Rattle.spin_step.specs.Steps.{bit}
use Rattle.spin_step.specs.declared.place.Hold.{Hold}
use Rattle.spin_step.specs.declared.place.Seat.{Seat}
use Rattle.spin_step.specs.declared.place.Seat.TheVariants.{Holding, Leaked}
use Rattle.spin_step.specs.declared.schedule.Move.{Move}
use Rattle.spin_step.specs.declared.schedule.Move.TheVariants.{Begin, Read, Write, OwnerGet}
use Rattle.spin_step.specs.declared.schedule.Outcome.{Outcome}
use Rattle.spin_step.specs.declared.schedule.Outcome.TheVariants.{Value}
use Rattle.spin_step.specs.Machines.{Machine}
use Rattle.spin_step.specs.Schedules.{State, happens, after, events_of, may_read, is_owners}
use Rattle.spin_world_core.specs.Runs.{Seen, scene, opening}

-- the world with its plain lock, after a schedule
abbrev pub seen_after : {W V C L A : Type 0} → Machine W V C L A → Seen W V C L → Schedule C V → Seen W V C L
seen_after m seen [] = seen
seen_after m seen (e ∷ es) = seen_after m (scene m seen e.0 e.1).after es

-- a world of n parties with its plain lock, after a schedule
abbrev pub seen_at : {W V C L A : Type 0} → Machine W V C L A → ℕ → Schedule C V → Seen W V C L
seen_at m n past = seen_after m (opening m n) past

-- after the schedule `past` the party p is in this call, at this point
abbrev pub IsCalling : {W V C L A : Type 0} → Machine W V C L A → ℕ → Schedule C V → ℕ → C → L → Option Hold → Type 0
IsCalling m n past p c l h = slice_get (state_at m n past).seats p ≡ Some (Calling c l h)

-- the outcome of a move after a schedule
abbrev pub outcome_after : {W V C L A : Type 0} → Machine W V C L A → ℕ → Schedule C V → ℕ → Move C V → Outcome A V
outcome_after m n past p move = (happens m (state_at m n past) p move).outcome

-- A party that holds the lock and may read finds the value last written. After a leak the party still finds it.
-- The owner finds it too, once every party is idle, has leaked or is gone.
pub record FindsLastWritten {W V C L A : Type 0} (m : Machine W V C L A) (n : ℕ) (past : Schedule C V) : Type 0 where
  pub holder : (p : ℕ) (h : Hold) → slice_get (state_at m n past).seats p ≡ Some (Holding h) → may_read h ≡ true
      → outcome_after m n past p Read ≡ Value (seen_at m n past).written
  pub leaked : (p : ℕ) (h : Hold) → slice_get (state_at m n past).seats p ≡ Some (Leaked h) → may_read h ≡ true
      → outcome_after m n past p Read ≡ Value (seen_at m n past).written
  pub owner : (p : ℕ) (seat : Seat C L) → slice_get (state_at m n past).seats p ≡ Some seat
      → is_owners m (state_at m n past) ≡ true → outcome_after m n past p OwnerGet ≡ Value (seen_at m n past).written

-- the move is no `Write`; if the move begins a call, this call keeps the guard
abbrev pub is_quiet_move : {C V : Type 0} → (C → Bool) → Move C V → Bool
is_quiet_move keeps move = elim move [ Begin c ↦ keeps c | Write v ↦ false | _ ↦ true ]

-- every move of the party among these entries is quiet
abbrev pub is_quiet : {C V : Type 0} → (C → Bool) → ℕ → Schedule C V → Bool
is_quiet keeps p [] = true
is_quiet keeps p (e ∷ es) = (not (e.0 == p) || is_quiet_move keeps e.1) && is_quiet keeps p es

-- two schedules one after another have the same result as both joined
pub record RunsJoin {W V C L A : Type 0} (m : Machine W V C L A) (s : State W V C L) (first second : Schedule C V) : Type 0 where
  pub state : after m (after m s first) second ≡ after m s (first ++ second)
  pub events : events_of m s first ++ events_of m (after m s first) second ≡ events_of m s (first ++ second)

-- Two reads of a party find the same value, if between them the party writes nothing and begins only calls that keep
-- its guard.
abbrev pub ReadsAgreeAcross : {W V C L A : Type 0} → (C → Bool) → Machine W V C L A → ℕ → Schedule C V → Type 0
ReadsAgreeAcross {V = V} {C = C} keeps m n past =
    (p : ℕ) (between : Schedule C V) (r s : Option V) → is_quiet keeps p between ≡ true
    → outcome_after m n past p Read ≡ Value r → outcome_after m n (past ++ (p, Read) ∷ between) p Read ≡ Value s → s ≡ r

-- two reads of a party find the same value, if between them the party writes nothing and begins no call
abbrev pub ReadsAgree : {W V C L A : Type 0} → Machine W V C L A → ℕ → Schedule C V → Type 0
ReadsAgree m n past = ReadsAgreeAcross (λ c. false) m n past

-- how many events of these entries make a plain step that passes the test

abbrev pub passes : (Change → Bool) → Option Change → Bool
passes test step = elim step [ None ↦ false | Some c ↦ test c ]

abbrev pub steps_made : {W V C L A : Type 0} → (Change → Bool) → Machine W V C L A → Seen W V C L → Schedule C V → ℕ
steps_made test m seen [] = 0
steps_made test m seen (e ∷ es) = bit (passes test (scene m seen e.0 e.1).change) + steps_made test m (scene m seen e.0 e.1).after es
