-- Wrong `Once` objects, each with one mistake in its machine.
use Rattle.std.specs.Prelude.{ℕ, Option, Some, None, ◌==◌}
use Rattle.spin_step.specs.Plain.{Change}
use Rattle.spin_step.specs.declared.place.Hold.{Hold}
use Rattle.spin_step.specs.declared.stepped.Next.TheVariants.{Continue, Answers}
use Rattle.spin_step.specs.declared.stepped.Stepped.{Stepped}
use Rattle.spin_step.specs.declared.answer.Answer.{Answer}
use Rattle.spin_step.specs.declared.answer.Answer.TheVariants.{Value, NoValue, Failed}
use Rattle.spin_step.specs.declared.once_calls.OnceCall.{OnceCall}
use Rattle.spin_step.specs.declared.once_calls.OnceCall.TheVariants.{CallOnce, TryCallOnceOk, TryCallOnceErr, Wait, Poll, Get}
use Rattle.spin_step.specs.declared.once_calls.OncePoint.{OncePoint}
use Rattle.spin_step.specs.declared.once_calls.OncePoint.TheVariants.{Look, TryBegin, Await, Run}
use Rattle.spin_step.specs.Acts.{either, stays}
use Rattle.spin_step.specs.OnceCalls.{OnceMachine, once_machine}

pub data Mistake (V : Type 0) : Type 0 where
  replaces sticks sticks_silently runs_on always_fails fails_late hesitates begins_again : Mistake V
  peeks never_gets polls_early polls_twice never_looks loses_by_chance : Mistake V
  gets_early waits_idly places_another opens_at_nothing : V → Mistake V
  tells_another : V → V → Mistake V

module _ (V : Type 0) where
  abbrev OnceStep : Type 0
  OnceStep = Stepped ℕ V OncePoint (Answer V)

  abbrev opening_of : Mistake V → Option V
  opening_of (waits_idly v) = Some v
  opening_of m = None

  -- a step that stores the value `put`, and answers the value `told`
  abbrev gives : ℕ → V → V → Option Hold → OnceStep
  gives w put told h = record { words = w; placed = Some put; next = Answers (Value told) h }

  -- the wrong steps; all others are the right ones
  abbrev steps : Mistake V → ℕ → Option V → OnceCall V → OncePoint → Option Hold → OnceStep → OnceStep
  -- a closure runs although there is a value, and replaces it
  steps replaces w (Some old) (CallOnce v) Look h right = gives w v v h
  -- a closure fails and leaves the word at running
  steps sticks_silently w value TryCallOnceErr Run h right = stays w (Answers Failed h)
  -- the same, but the machine names no plain step for this failure
  steps sticks w value TryCallOnceErr Run h right = stays w (Answers Failed h)
  -- a closure that never ends
  steps runs_on w value (CallOnce v) Run h right = stays w (Continue Run)
  -- a call whose closure has failed gets its answer one step later
  steps fails_late w value TryCallOnceErr Run h right = stays 0 (Continue Await)
  steps fails_late w value TryCallOnceErr Await h right = stays w (Answers Failed h)
  -- a call that waits for a closure, and then finds no value, looks once more before it begins its own closure
  steps hesitates w value (CallOnce v) Await h right = either (w == 0) (stays w (Continue Look)) right
  -- a call whose exchange has failed beside a running closure makes its exchange again, without a look
  steps begins_again w value c TryBegin h right = either (w == 1) (stays w (Continue TryBegin)) right
  -- `get` loads the value without the word
  steps peeks w value Get l h right = stays w (Answers (elim value [ Some v ↦ Value v | None ↦ NoValue ]) h)
  -- a `poll` that never waits
  steps polls_early w None Poll l h right = stays w (Answers NoValue h)
  -- a `poll` that finds neither a value nor a closure looks once more
  steps polls_twice w value Poll Look h right = either (w == 0) (stays w (Continue Await)) right
  -- `get` answers this value, even if the `Once` has no value
  steps (gets_early v) w value Get l h right = stays w (Answers (Value v) h)
  -- `wait` looks once more before it answers
  steps (waits_idly v) w value Wait Look h right = stays w (Continue Await)
  -- the call stores and answers this value, not that of its closure
  steps (places_another v) w value (CallOnce x) Run h right = gives 2 v v h
  -- the call stores the value u, and answers v
  steps (tells_another u v) w value (CallOnce x) Run h right = gives 2 u v h
  steps m w value c l h right = right

  -- the plain steps that the machine names; all others are the right ones
  abbrev names : Mistake V → OnceCall V → OncePoint → Option Change → Option Change
  names sticks TryCallOnceErr Run right = None
  names runs_on (CallOnce v) Run right = None
  names m c l right = right

  -- a closure that may fail always fails
  abbrev as_failing : OnceCall V → OnceCall V
  as_failing (TryCallOnceOk v) = TryCallOnceErr
  as_failing c = c

  abbrev empty : OnceMachine V
  empty = once_machine None

  -- the `Once` with this mistake
  abbrev pub wrong : Mistake V → OnceMachine V
  wrong always_fails = record empty {
    begin = λ c h. empty.begin (as_failing c) h;
    step = λ w value c l h. empty.step w value (as_failing c) l h;
    asks = λ c h. empty.asks (as_failing c) h;
    change = λ p w c l h. empty.change p w (as_failing c) l h;
    brings = λ c. empty.brings (as_failing c);
  }
  -- `get` can never begin
  wrong never_gets = record empty { begin = λ c h. elim c [ Get ↦ None | other ↦ empty.begin other h ] }
  -- `call_once` begins with its exchange
  wrong never_looks = record empty {
    begin = λ c h. elim c [
      | CallOnce v ↦ elim h [ None ↦ Some TryBegin | held ↦ empty.begin (CallOnce v) held ]
      | other ↦ empty.begin other h
    ];
  }
  -- an exchange may fail spuriously
  wrong loses_by_chance = record empty {
    refuse = λ c l h. elim c [
      | CallOnce v ↦ elim l [ TryBegin ↦ Some (Continue Await) | _ ↦ None ]
      | _ ↦ None
    ];
  }
  -- the `Once` has a value, but its word says that there is none
  wrong (opens_at_nothing v) = record (once_machine (Some v)) { words = 0 }
  wrong m =
      let right : OnceMachine V = once_machine (opening_of m) in
      record right {
        step = λ w value c l h. steps m w value c l h (right.step w value c l h);
        change = λ p w c l h. names m c l (right.change p w c l h);
      }
