-- Starvation: a call that is never answered, although the schedule is fair.
use Rattle.std.specs.Prelude.{◌≡◌, ℕ, ◌==◌, true, false, Option, Some, List, [], slice_get}
use Rattle.spin_step.specs.Calls.{Asked}
use Rattle.spin_step.specs.Machines.{Machine}
use Rattle.spin_step.specs.Parties.{entries}
use Rattle.spin_step.specs.Plain.{is_starver}
use Rattle.spin_step.specs.Schedules.{Entry, after, at_first}
use Rattle.spin_step.specs.declared.place.Hold.{Hold}
use Rattle.spin_step.specs.declared.place.Hold.TheVariants.{Starver}
use Rattle.spin_step.specs.declared.place.Seat.TheVariants.{Calling, Holding}
use Rattle.spin_step.specs.declared.schedule.Move.TheVariants.{Weak}
use Rattle.spin_world_core.specs.Runs.{Seen, opening}
use Rattle.spin_world_core.specs.Users.{seen_after}
use Rattle.spin_laws.specs.Rounds.{grants_any, Test, occurs, is_call_step, stretch, IsFairSchedule}
use Rattle.spin_step.specs.declared.schedule.Outcome.TheVariants as outcome

-- the party's call is answered, or some exchange fails spuriously
abbrev pub ends_or_weak : {V C L A : Type 0} → ℕ → Test V C L A
ends_or_weak p q Weak o x = is_call_step o
ends_or_weak p q move (outcome.Answered a b) x = q == p
ends_or_weak p q move _ x = false

-- A call with the promise `what` may wait for ever for an event that passes the party's test. After some schedule of n
-- parties, a party is in such a call, and P holds of the party and the state. From there some endless fair schedule has
-- no such event.
abbrev pub MayWaitWhere : {W V C L A : Type 0} → (Seen W V C L → ℕ → Type 0) → (ℕ → Test V C L A) → Machine W V C L A → ℕ → Asked → Type 0
MayWaitWhere {V = V} {C = C} {L = L} P test m n what =
    (past : List (Entry C V)) × (schedule : ℕ → Entry C V) × (p : ℕ) × (c : C) × (l : L) × (h : Option Hold)
    × P (seen_after m (opening m n) past) p
    × (let s = after m (at_first m n) past in (slice_get s.seats p ≡ Some (Calling c l h)) × (m.asks c h ≡ what)
    × IsFairSchedule m s schedule × ((place : ℕ) → occurs m (test p) s (stretch schedule 0 place) ≡ false))

-- A call with the promise `what` may starve: some endless fair schedule never answers it, and in that schedule no
-- exchange fails spuriously.
abbrev pub MayStarve : {W V C L A : Type 0} → Machine W V C L A → ℕ → Asked → Type 0
MayStarve = MayWaitWhere (λ seen p. Unit {0}) ends_or_weak

-- As `MayStarve`, and P holds of the party and the state in which it is in this call.
abbrev pub MayStarveWhere : {W V C L A : Type 0} → (Seen W V C L → ℕ → Type 0) → Machine W V C L A → ℕ → Asked → Type 0
MayStarveWhere P = MayWaitWhere P ends_or_weak

-- the party is registered as a starver
abbrev pub Starves : {W V C L : Type 0} → Seen W V C L → ℕ → Type 0
Starves seen p = is_starver p seen.plain.starvers ≡ true

-- the party has no ticket
abbrev pub HasNoTicket : {W V C L : Type 0} → Seen W V C L → ℕ → Type 0
HasNoTicket seen p = (entries p seen.plain).tickets ≡ []

-- the party is not registered, and another party is registered and in no call
abbrev pub WaitsBesideIdleStarver : {W V C L : Type 0} → Seen W V C L → ℕ → Type 0
WaitsBesideIdleStarver seen p = (is_starver p seen.plain.starvers ≡ false) × (q : ℕ) × (slice_get seen.state.seats q ≡ Some (Holding Starver))

-- some party is granted what it asks, or some exchange fails spuriously
abbrev pub grants_or_weak : {W V C L A : Type 0} → Machine W V C L A → Test V C L A
grants_or_weak m q move o x = elim move [ Weak ↦ is_call_step o | other ↦ grants_any m q other o x ]

-- Calls with the promise `what` are not free of deadlock. After some schedule of n parties, a party is in such a call,
-- and P holds of this party and this state. From there some endless fair schedule grants nobody anything, and in that
-- schedule no exchange fails spuriously.
abbrev pub MayDeadlockWhere : {W V C L A : Type 0} → (Seen W V C L → ℕ → Type 0) → Machine W V C L A → ℕ → Asked → Type 0
MayDeadlockWhere P m = MayWaitWhere P (λ p. grants_or_weak m) m
