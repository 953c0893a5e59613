-- Progress of a flag: in how many rounds somebody is granted the lock.
use Rattle.std.specs.Prelude.{ℕ, List}
use Rattle.spin_step.specs.Machines.{Machine}
use Rattle.spin_step.specs.Schedules.{Entry}
use Rattle.spin_laws.specs.Rounds.{InRounds, AtLast, IsWaiting, either, grants_any, refuses_weakly}

-- While a party waits in a `lock`, in every four rounds some party is granted the lock, or the waiting party's exchange
-- fails spuriously.
abbrev pub LocksInFour : {W V C L A : Type 0} → Machine W V C L A → ℕ → List (Entry C V) → List (List (Entry C V)) → Type 0
LocksInFour m = InRounds m (IsWaiting m) 4 (λ p. either (grants_any m) (refuses_weakly p))

-- Deadlock freedom: while a party waits in a `lock`, in an endless fair schedule some party is granted the lock, or the
-- waiting party's exchange fails spuriously
abbrev pub IsDeadlockFree : {W V C L A : Type 0} → Machine W V C L A → ℕ → List (Entry C V) → (ℕ → Entry C V) → Type 0
IsDeadlockFree m = AtLast m (IsWaiting m) (λ p. either (grants_any m) (refuses_weakly p))
