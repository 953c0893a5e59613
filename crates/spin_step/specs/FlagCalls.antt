-- The flag's calls, step by step, and what each step is in the plain lock.
use Rattle.std.specs.Prelude.{ℕ, ◌==◌, Bool, false, Option, Some, None, [], ◌∷◌}
use Rattle.spin_step.specs.Plain.{writing, to_write, gets, releases}
use Rattle.spin_step.specs.Steps.{bit}
use Rattle.spin_step.specs.Flags as flags
use Rattle.std.specs.Option.{option_map}
use Rattle.spin_step.specs.declared.place.Hold.{Hold}
use Rattle.spin_step.specs.declared.place.Hold.TheVariants.{Write}
use Rattle.spin_step.specs.declared.stepped.Next.{Next}
use Rattle.spin_step.specs.declared.stepped.Next.TheVariants.{Continue, Answers}
use Rattle.spin_step.specs.declared.flag_calls.FlagCall.{FlagCall}
use Rattle.spin_step.specs.declared.flag_calls.FlagCall.TheVariants.{Lock, TryLock, TryLockWeak, IsLocked, Release}
use Rattle.spin_step.specs.declared.flag_calls.FlagPoint.{FlagPoint}
use Rattle.spin_step.specs.declared.flag_calls.FlagPoint.TheVariants.{First, Second}
use Rattle.spin_step.specs.declared.answer.Answer.{Answer}
use Rattle.spin_step.specs.declared.answer.Answer.TheVariants.{Granted, Refused, Done, Is}
use Rattle.spin_step.specs.Calls.{Asked}
use Rattle.spin_step.specs.Asks.{is_write, waits_to_write, tries, tries_weakly, looks, gives_back}
use Rattle.spin_step.specs.FlagKind.{flag}
use Rattle.spin_step.specs.Machines.{Machine}
use Rattle.spin_step.specs.Acts.{Memory, Act, load, load_if, exchange, weak_exchange, store, swap, Table, machine_of}
use Rattle.spin_step.specs.Tables.{usual_table}
use Rattle.spin_step.specs.declared.table.Operation.TheVariants as op

abbrev pub is_set : ℕ → Bool
is_set n = n == 1

-- the step function of `lock`, on numbers
abbrev pub lock : ℕ → Option ℕ
lock n = option_map bit (flags.lock (is_set n))

abbrev pub flag_memory : Memory Bool
flag_memory = record { numbers = λ w. bit w ∷ []; put = λ i n w. is_set n }

abbrev pub granted : {V : Type 0} → Next FlagPoint (Answer V)
granted = Answers Granted (Some Write)

-- The steps of each call. `Lock` makes a weak exchange; after that has failed, it looks until the flag is clear. A release is possible only
-- if the flag is set.
abbrev pub act_of : {V : Type 0} → FlagCall → FlagPoint → Option Hold → Act Bool FlagPoint (Answer V)
act_of Lock First h = weak_exchange 0 lock (λ p. gets p to_write) granted (Continue Second)
act_of Lock Second h = load_if is_set (λ n. Continue Second) (λ n. Continue First)
act_of TryLock l h = exchange (swap 0 lock) (λ p. gets p to_write) granted (λ n. Answers Refused h)
act_of TryLockWeak l h = weak_exchange 0 lock (λ p. gets p to_write) granted (Answers Refused h)
act_of IsLocked l h = load (λ n. Answers (Is (is_set n)) h)
act_of Release l h = store is_set (op.Store 0) (λ p. releases p writing) (Answers Done None)

abbrev pub asks_of : FlagCall → Option Hold → Asked
asks_of Lock h = waits_to_write
asks_of TryLock h = tries to_write
asks_of TryLockWeak h = tries_weakly to_write
asks_of IsLocked h = looks
asks_of Release h = gives_back is_write h

abbrev pub flag_table : {V : Type 0} → V → Table Bool V FlagCall FlagPoint (Answer V)
flag_table v = usual_table (Some v) flag false flag_memory (λ c h. First) act_of asks_of

abbrev pub flag_machine : {V : Type 0} → V → Machine Bool V FlagCall FlagPoint (Answer V)
flag_machine v = machine_of (flag_table v)
