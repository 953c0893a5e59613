-- Progress of a lock of seats: in how many rounds somebody is granted a seat.
use Rattle.std.specs.Prelude.{ℕ, List}
use Rattle.spin_step.specs.Machines.{Machine}
use Rattle.spin_step.specs.Schedules.{Entry}
use Rattle.spin_laws.specs.Rounds.{InRounds, AtLast, IsWaiting, grants_any}

-- While a party waits in an `enter`, in every four rounds some party is granted a seat
abbrev pub SeatsSomebodyInFour : {W V C L A : Type 0} → Machine W V C L A → ℕ → List (Entry C V) → List (List (Entry C V)) → Type 0
SeatsSomebodyInFour m = InRounds m (IsWaiting m) 4 (λ p. grants_any m)

-- Deadlock freedom: while a party waits in an `enter`, in an endless fair schedule some party is granted a seat
abbrev pub SeatsAreDeadlockFree : {W V C L A : Type 0} → Machine W V C L A → ℕ → List (Entry C V) → (ℕ → Entry C V) → Type 0
SeatsAreDeadlockFree m = AtLast m (IsWaiting m) (λ p. grants_any m)
