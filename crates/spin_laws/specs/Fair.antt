-- Progress of a fair lock: in how many rounds somebody is granted the lock while a starver waits.
use Rattle.std.specs.Prelude.{◌≡◌, ℕ, ◌&&◌, true, false, Option, Some, List}
use Rattle.spin_step.specs.Plain.{is_starver}
use Rattle.spin_step.specs.Machines.{Machine}
use Rattle.spin_step.specs.Schedules.{Entry, may_read}
use Rattle.spin_step.specs.declared.place.Hold.{Hold}
use Rattle.spin_step.specs.declared.place.Seat.TheVariants.{Holding}
use Rattle.spin_world_core.specs.Runs.{Seen}
use Rattle.spin_laws.specs.Rounds.{Test, InRounds, AtLast, says_granted}
use Rattle.spin_step.specs.declared.schedule.Outcome.TheVariants as outcome

-- some party is granted the lock, and not only a registration as a starver
abbrev pub grants_lock : {W V C L A : Type 0} → Machine W V C L A → Test V C L A
grants_lock m q move (outcome.Answered a b) (Some (Holding h)) = says_granted (m.says a) && may_read h
grants_lock m q move _ _ = false

-- the party waits, and is registered as a starver
abbrev pub WaitsStarving : {W V C L A : Type 0} → Machine W V C L A → Seen W V C L → ℕ → C → Option Hold → Type 0
WaitsStarving m seen p c h = ((m.asks c h).waits ≡ true) × (is_starver p seen.plain.starvers ≡ true)

-- While a starver waits, some party is granted the lock in every five rounds
abbrev pub LocksInFive : {W V C L A : Type 0} → Machine W V C L A → ℕ → List (Entry C V) → List (List (Entry C V)) → Type 0
LocksInFive m = InRounds m (WaitsStarving m) 5 (λ p. grants_lock m)

-- Deadlock freedom: while a starver waits, in an endless fair schedule some party is granted the lock
abbrev pub StarversAreDeadlockFree : {W V C L A : Type 0} → Machine W V C L A → ℕ → List (Entry C V) → (ℕ → Entry C V) → Type 0
StarversAreDeadlockFree m = AtLast m (WaitsStarving m) (λ p. grants_lock m)
