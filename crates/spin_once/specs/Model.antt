-- The model of a `Once` on threads: the table of its object, with one difference. In the table the name of a call says from the beginning
-- whether its closure fails. On threads this shows only when the closure ends. Then the move `Weak` says that the closure has failed, and
-- the last step of the call is that of a call whose closure fails.
use Rattle.std.specs.Prelude.{ℕ, Option, Some, None}
use Rattle.std.specs.Option.{option_map}
use Rattle.spin_step.specs.declared.answer.Answer.{Answer}
use Rattle.spin_step.specs.declared.once_calls.OnceCall.{OnceCall}
use Rattle.spin_step.specs.declared.once_calls.OnceCall.TheVariants.{TryCallOnceOk, TryCallOnceErr}
use Rattle.spin_step.specs.declared.once_calls.OncePoint.{OncePoint}
use Rattle.spin_step.specs.declared.once_calls.OncePoint.TheVariants.{Run}
use Rattle.spin_step.specs.declared.place.Hold.{Hold}
use Rattle.spin_step.specs.declared.stepped.Next.{Next}
use Rattle.spin_step.specs.declared.stepped.Next.TheVariants.{Continue, Answers}
use Rattle.spin_step.specs.declared.stepped.Stepped.{Stepped}
use Rattle.spin_step.specs.Machines.{Machine}
use Rattle.spin_step.specs.OnceCalls.{OnceMachine, once_machine}

-- where a call is: at a point of the table, or after its closure has failed
pub data Point : Type 0 where
  at : OncePoint → Point
  failed : Point

-- the call of the table; once the closure has failed, it is a call whose closure fails
abbrev pub call_at : OnceCall (Unit {0}) → Point → OnceCall (Unit {0})
call_at c (at l) = c
call_at c failed = TryCallOnceErr

abbrev pub point_at : Point → OncePoint
point_at (at l) = l
point_at failed = Run

abbrev pub onward : Next OncePoint (Answer (Unit {0})) → Next Point (Answer (Unit {0}))
onward (Continue l) = Continue (at l)
onward (Answers a h) = Answers a h

abbrev on_points : Stepped ℕ (Unit {0}) OncePoint (Answer (Unit {0})) → Stepped ℕ (Unit {0}) Point (Answer (Unit {0}))
on_points st = record { words = st.words; placed = st.placed; next = onward st.next }

-- the move `Weak`: the closure that runs fails, if it may fail
abbrev pub fails_at : OnceCall (Unit {0}) → Point → Option Hold → Option (Next Point (Answer (Unit {0})))
fails_at (TryCallOnceOk v) (at Run) h = Some (Continue failed)
fails_at _ _ h = None

-- The model of a `Once` that opened with this value, or with none. All values are one value of the model, the only one of its type.
abbrev pub model : Option (Unit {0}) → Machine ℕ (Unit {0}) (OnceCall (Unit {0})) Point (Answer (Unit {0}))
model given =
    let m : OnceMachine (Unit {0}) = once_machine given in
    record {
      words = m.words;
      value = m.value;
      owned = m.owned;
      begin = λ c h. option_map (λ l. at l) (m.begin c h);
      refuse = fails_at;
      can = λ w c l h. m.can w (call_at c l) (point_at l) h;
      step = λ w value c l h. on_points (m.step w (Some tt) (call_at c l) (point_at l) h);
      lock_kind = m.lock_kind;
      cap = m.cap;
      group = m.group;
      first = m.first;
      numbers = m.numbers;
      asks = m.asks;
      says = m.says;
      change = λ p w c l h. m.change p w (call_at c l) (point_at l) h;
      step_kind = λ c l h. m.step_kind (call_at c l) (point_at l) h;
      brings = m.brings;
      gives = m.gives;
    }
