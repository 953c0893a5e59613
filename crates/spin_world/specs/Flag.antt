-- What a flag is: its first state, and what each of its calls promises. The promise also says what the party holds when the call begins.
use Rattle.spin_world_core.specs.Kinds.{IsLock, Asks}
use Rattle.std.specs.Prelude.{◌≡◌, Bool, true, false, Option, Some, None, [], ◌∷◌}
use Rattle.spin_step.specs.Plain.{to_write}
use Rattle.spin_step.specs.Steps.{bit}
use Rattle.spin_step.specs.declared.place.Hold.{Hold}
use Rattle.spin_step.specs.declared.place.Hold.TheVariants.{Write}
use Rattle.spin_step.specs.declared.answer.Answer.{Answer}
use Rattle.spin_step.specs.declared.flag_calls.FlagCall.{FlagCall}
use Rattle.spin_step.specs.declared.flag_calls.FlagCall.TheVariants.{Lock, TryLock, TryLockWeak, IsLocked, Release}
use Rattle.spin_step.specs.declared.flag_calls.FlagPoint.{FlagPoint}
use Rattle.spin_step.specs.Calls.{says_of}
use Rattle.spin_step.specs.Asks.{gives_back, is_write, looks, tries, tries_weakly, waits_to_write}
use Rattle.spin_step.specs.FlagKind.{flag}
use Rattle.spin_step.specs.Machines.{Machine}
use Rattle.spin_world_core.specs.Kinds.{BeginAt, AnswersIn}

pub record IsFlagMachine {V : Type 0} (given : V) (m : Machine Bool V FlagCall FlagPoint (Answer V)) : Type 0 where
  pub is_lock : IsLock flag false (λ w. bit w ∷ []) (Some given) true m
  pub open is_lock use *
  pub lock : Asks m Lock waits_to_write
  pub try_lock : Asks m TryLock (tries to_write)
  pub try_lock_weak : Asks m TryLockWeak (tries_weakly to_write)
  pub is_locked : Asks m IsLocked looks
  pub release : (h : Option Hold) → m.asks Release h ≡ gives_back is_write h
  pub calls : BeginAt m ((Lock, None) ∷ (TryLock, None) ∷ (TryLockWeak, None) ∷ (IsLocked, None) ∷ (Release, Some Write) ∷ [])
  pub soon : AnswersIn m 2 Lock
