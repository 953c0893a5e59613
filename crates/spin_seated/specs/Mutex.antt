-- The plain mutex.
use Rattle.std.specs.Prelude.{ℕ, Bool, true, false, ◌||◌, if◌then◌else◌, [], ◌∷◌, not}
use Rattle.spin_step.specs.Plain.{fresh, writing, is_open, apply, gets, releases, to_write, flag_word, is_holder, is_empty}
use Rattle.spin_seated.specs.declared.lock.Opening.{Opening}
use Rattle.spin_seated.specs.declared.lock.Answer.{Answer}
use Rattle.spin_seated.specs.declared.lock.Answer.TheVariants.{Truth, Value, Done}
use Rattle.spin_seated.specs.declared.mutex.Call.{Call}
use Rattle.spin_seated.specs.declared.mutex.Call.TheVariants.{TryLock, IsLocked, Read, Write, Unlock}
use Rattle.spin_seated.specs.Histories.{PlainObject}
use Rattle.spin_seated.specs.Locked.{Locked}

-- a pass may always call `try_lock` and `is_locked`; only the holder may make the other calls
abbrev pub may_call : ℕ → Call → Locked → Bool
may_call p TryLock s = true
may_call p IsLocked s = true
may_call p Read s = is_open s.lock (releases p writing)
may_call p (Write v) s = is_open s.lock (releases p writing)
may_call p Unlock s = is_open s.lock (releases p writing)

abbrev pub plain_answer : ℕ → Call → Locked → Answer
plain_answer p TryLock s = Truth (is_open s.lock (gets p to_write))
plain_answer p IsLocked s = Truth (not (is_empty s.lock.holders))
plain_answer p Read s = Value s.value
plain_answer p (Write v) s = Done
plain_answer p Unlock s = Done

abbrev pub after_call : ℕ → Call → Locked → Locked
after_call p TryLock s = if is_open s.lock (gets p to_write) then record s { lock = apply s.lock (gets p to_write) } else s
after_call p IsLocked s = s
after_call p Read s = s
after_call p (Write v) s = record s { value = v }
after_call p Unlock s = record s { lock = apply s.lock (releases p writing) }

abbrev pub held_after : Call → Answer → Bool → Bool
held_after TryLock (Truth granted) held = held || granted
held_after Unlock a held = false
held_after c a held = held

abbrev pub mutex : PlainObject Opening Locked Call Answer Bool
mutex =
    record {
      start = λ k. record { lock = fresh 1 1 0; value = k.value };
      passes = λ k. k.passes;
      words = λ s. flag_word s.lock ∷ s.value ∷ [];
      may = may_call;
      answer = plain_answer;
      next = after_call;
      holds = λ p s. is_holder p writing s.lock.holders;
      held_after = held_after;
    }
