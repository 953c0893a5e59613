-- What a fair lock is: its first state, how many parties may starve, and what each of its calls promises. The promise of
-- a call also says what its party holds when the call begins.
use Rattle.spin_world_core.specs.Kinds.{IsLock, Asks}
use Rattle.std.specs.Prelude.{◌≡◌, ℕ, true, min, Some, None, [], ◌∷◌}
use Rattle.spin_step.specs.Plain.{to_lock_unregistered, to_lock_starving, to_lock_starving_alone, to_starve}
use Rattle.spin_step_more.specs.Starvers.{most_starvers}
use Rattle.spin_step.specs.declared.place.Hold.TheVariants.{Write, Starver}
use Rattle.spin_step.specs.declared.answer.Answer.{Answer}
use Rattle.spin_step_more.specs.declared.fair_calls.FairCall.{FairCall}
use Rattle.spin_step_more.specs.declared.fair_calls.FairCall.TheVariants.{Lock, TryLock, TryLockStarver, IsLocked, Starve, StarverTryLockFair, StarverTryLock, StarverLock, StarverDrop, Release}
use Rattle.spin_step_more.specs.declared.fair_calls.FairPoint.{FairPoint}
use Rattle.spin_step.specs.Calls.{says_of}
use Rattle.spin_step.specs.Asks.{gives_back, is_registered, is_write, looks, looks_and_tries, tries, tries_in, tries_to_know, waits_or_starves, waits_starving}
use Rattle.spin_step_more.specs.FairKind.{fair}
use Rattle.spin_step.specs.Machines.{Machine}
use Rattle.spin_world_core.specs.Kinds.{BeginAt}

abbrev pub FairMachine : Type 0 → Type 0
FairMachine V = Machine ℕ V FairCall FairPoint (Answer V)

-- `m` is the machine of a fair lock with this cap of starvers. A `lock` tries to register when more than `patience`
-- of its looks have found the flag set.
pub record IsFairMachine {V : Type 0} (given : V) (cap patience : ℕ) (m : FairMachine V) : Type 0 where
  pub is_lock : IsLock fair 0 (λ w. w ∷ []) (Some given) true m
  pub open is_lock use *
  pub most_starve : m.cap ≡ min cap most_starvers
  pub lock : Asks m Lock (waits_or_starves patience)
  pub try_lock : Asks m TryLock (tries to_lock_unregistered)
  pub try_lock_starver : Asks m TryLockStarver (tries_to_know to_lock_unregistered)
  pub is_locked : Asks m IsLocked looks
  pub starve : Asks m Starve (looks_and_tries to_starve)
  pub starver_try_lock_fair : Asks m StarverTryLockFair (tries_in 2 to_lock_starving_alone)
  pub starver_try_lock : Asks m StarverTryLock (tries_in 2 to_lock_starving)
  pub starver_lock : Asks m StarverLock waits_starving
  pub starver_drop : Asks m StarverDrop (gives_back is_registered (Some Starver))
  pub release : Asks m Release (gives_back is_write (Some Write))
  pub calls : BeginAt m ((Lock, None) ∷ (TryLock, None) ∷ (TryLockStarver, None) ∷ (IsLocked, None) ∷ (Starve, None) ∷ (Release, Some Write) ∷ [])
  pub starving : BeginAt m ((StarverTryLockFair, Some Starver) ∷ (StarverTryLock, Some Starver) ∷ [])
  pub starvers : BeginAt m ((StarverLock, Some Starver) ∷ (StarverDrop, Some Starver) ∷ [])
