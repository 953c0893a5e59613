-- Wrong flags, each with one mistake in its machine.
use Rattle.spin_step.specs.declared.place.Hold.{Hold}
use Rattle.spin_step.specs.declared.place.Hold.TheVariants.{Read}
use Rattle.std.specs.Prelude.{Bool, true, false, Option, Some, None}
use Rattle.spin_step.specs.declared.stepped.Next.TheVariants.{Continue, Answers}
use Rattle.spin_step.specs.declared.answer.Answer.{Answer}
use Rattle.spin_step.specs.declared.answer.Answer.TheVariants.{Refused, Is, Granted}
use Rattle.spin_step.specs.declared.flag_calls.FlagCall.{FlagCall}
use Rattle.spin_step.specs.declared.flag_calls.FlagCall.TheVariants.{Lock, TryLock, Release}
use Rattle.spin_step.specs.declared.flag_calls.FlagPoint.{FlagPoint}
use Rattle.spin_step.specs.declared.flag_calls.FlagPoint.TheVariants.{First, Second}
use Rattle.spin_step.specs.Machines.{Machine}
use Rattle.spin_step.specs.Plain.{gets, to_read, to_write}
use Rattle.std.specs.Option.{option_map}
use Rattle.spin_step.specs.Acts.{Act, weak_exchange, machine_of, exchange, swap, stays}
use Rattle.spin_step.specs.FlagCalls.{lock, granted, act_of, flag_table, flag_machine}
use Rattle.spin_step.specs.Asks.{waits}

pub data Mistake : Type 0 where
  never_looks looks_first looks_for_ever refuses_at_its_look retries_at_once locks_to_read grants_to_read : Mistake
  tries_by_chance looks_by_chance never_releases opens_set : Mistake

module _ {V : Type 0} (v : V) where
  abbrev FlagMachine : Type 0
  FlagMachine = Machine Bool V FlagCall FlagPoint (Answer V)

  abbrev right : FlagMachine
  right = flag_machine v

  -- the wrong steps; all other steps are right
  abbrev acts : Mistake → FlagCall → FlagPoint → Option Hold → Act Bool FlagPoint (Answer V)
  -- a `lock` that never looks
  acts never_looks Lock l h = weak_exchange 0 lock (λ p. gets p to_write) granted (Continue First)
  -- a `try_lock` whose party is told that it reads, though it holds the lock to write
  acts grants_to_read TryLock l h =
      exchange (swap 0 lock) (λ p. gets p to_write) (Answers Granted (Some Read)) (λ n. Answers Refused None)
  acts m c l h = act_of c l h

  -- the flag with this mistake
  abbrev pub wrong : Mistake → FlagMachine
  -- a `lock` that begins with its look
  wrong looks_first =
      record right { begin = λ c h. option_map (λ l. elim c [ Lock ↦ Second | _ ↦ l ]) (right.begin c h) }
  -- a `lock` that looks for ever after its first exchange has failed
  wrong looks_for_ever =
      record right { step = λ w x c l h. elim l [ Second ↦ stays w (Continue Second) | at ↦ right.step w x c at h ] }
  -- a `lock` whose look may fail spuriously, as if the flag were set
  wrong refuses_at_its_look =
      record right { refuse = λ c l h. elim l [ Second ↦ Some (Continue Second) | at ↦ right.refuse c at h ] }
  -- a `lock` that makes its exchange again after a spurious failure, without a look
  wrong retries_at_once =
      record right { refuse = λ c l h. option_map (λ n. elim c [ Lock ↦ Continue First | _ ↦ n ]) (right.refuse c l h) }
  -- a `lock` that asks to read, though such a grant needs a plain step that no flag makes
  wrong locks_to_read = record right { asks = λ c h. elim c [ Lock ↦ waits to_read | other ↦ right.asks other h ] }
  -- a strong try that may fail spuriously
  wrong tries_by_chance = record right { refuse = λ c l h. Some (Answers Refused h) }
  -- an `is_locked` whose load may fail spuriously, and which then answers that nobody holds
  wrong looks_by_chance = record right { refuse = λ c l h. Some (Answers (Is false) h) }
  -- a `release` that can never begin
  wrong never_releases = record right { begin = λ c h. elim c [ Release ↦ None | other ↦ right.begin other h ] }
  -- a flag that is set at first and for ever, though nobody holds it
  wrong opens_set = record right { words = true }
  wrong m = machine_of (record (flag_table v) { act = acts m })
