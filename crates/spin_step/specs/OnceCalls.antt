-- The calls of a `Once`, step by step, and what each step is in the plain lock.
use Rattle.std.specs.Prelude.{ℕ, Bool, Option, Some, None, ◌==◌, is_some, if◌then◌else◌}
use Rattle.spin_step.specs.Plain.{to_begin, gets, completes, fails}
use Rattle.spin_step.specs.Flags.{begun, completed, failed}
use Rattle.spin_step.specs.declared.place.Hold.{Hold}
use Rattle.spin_step.specs.declared.stepped.Next.{Next}
use Rattle.spin_step.specs.declared.stepped.Next.TheVariants.{Continue, Answers}
use Rattle.spin_step.specs.declared.answer.Answer.{Answer}
use Rattle.spin_step.specs.declared.answer.Answer.TheVariants.{Is, Value, NoValue, Failed}
use Rattle.spin_step.specs.declared.once_calls.OnceCall.{OnceCall}
use Rattle.spin_step.specs.declared.once_calls.OnceCall.TheVariants.{CallOnce, TryCallOnceOk, TryCallOnceErr, InitFromRef, Wait, Poll, Get, IsCompleted}
use Rattle.spin_step.specs.declared.once_calls.OncePoint.{OncePoint}
use Rattle.spin_step.specs.declared.once_calls.OncePoint.TheVariants.{Look, TryBegin, Await, Run}
use Rattle.spin_step.specs.Calls.{Asked}
use Rattle.spin_step.specs.OnceKind.{once}
use Rattle.spin_step.specs.Machines.{Machine}
use Rattle.spin_step.specs.Acts.{one_number, Act, load, load_if, exchange, store, swap, either, Table, machine_with}
use Rattle.spin_step.specs.Tables.{usual_table}
use Rattle.spin_step.specs.declared.table.Operation.TheVariants as op
use Rattle.spin_step.specs.Asks.{initializes, fails_to_initialize, waits_for_value, polls, looks_for_value, looks_complete}

-- there is a value
abbrev pub is_there : ℕ → Bool
is_there w = w == 2

-- the call answers the value that is there
abbrev pub tells_value : Option Hold → Next OncePoint (Answer (Unit {0}))
tells_value h = Answers (Value tt) h

abbrev pub OnceAct : Type 0
OnceAct = Act ℕ OncePoint (Answer (Unit {0}))

-- A call with a closure looks first. If there is no value, it begins its closure; while another closure runs, it waits.
abbrev pub runs : OnceAct → OncePoint → Option Hold → OnceAct
runs end Look h = load_if is_there (λ w. tells_value h) (λ w. Continue TryBegin)
runs end TryBegin h = exchange (swap 0 begun) (λ p. gets p to_begin) (Continue Run) (λ w. either (is_there w) (tells_value h) (Continue Await))
runs end Await h = load_if is_there (λ w. tells_value h) (λ w. either (w == 0) (Continue TryBegin) (Continue Await))
runs end Run h = end

-- the step that ends the call's own closure, which gives a value or fails
abbrev pub ends : {V : Type 0} → Option V → Option Hold → OnceAct
ends (Some v) h = store (λ w. w == 1) (op.Store (completed 1)) (λ p. completes p) (tells_value h)
ends None h = store (λ w. w == 1) (op.Store (failed 1)) (λ p. fails p) (Answers Failed h)

-- the value that the call's closure gives
abbrev pub brings_of : {V : Type 0} → OnceCall V → Option V
brings_of (CallOnce v) = Some v
brings_of (TryCallOnceOk v) = Some v
brings_of (InitFromRef v) = Some v
brings_of _ = None

abbrev pub act_of : {V : Type 0} → OnceCall V → OncePoint → Option Hold → OnceAct
act_of Wait l h = load_if is_there (λ w. tells_value h) (λ w. Continue Look)
act_of Poll l h = load_if is_there (λ w. tells_value h) (λ w. either (w == 0) (Answers NoValue h) (Continue Look))
act_of Get l h = load_if is_there (λ w. tells_value h) (λ w. Answers NoValue h)
act_of IsCompleted l h = load (λ w. Answers (Is (is_there w)) h)
act_of c l h = runs (ends (brings_of c) h) l h

abbrev pub asks_of : {V : Type 0} → OnceCall V → Asked
asks_of (CallOnce v) = initializes
asks_of (TryCallOnceOk v) = initializes
asks_of TryCallOnceErr = fails_to_initialize
asks_of (InitFromRef v) = initializes
asks_of Wait = waits_for_value
asks_of Poll = polls
asks_of Get = looks_for_value
asks_of IsCompleted = looks_complete

abbrev pub OnceMachine : Type 0 → Type 0
OnceMachine V = Machine ℕ V (OnceCall V) OncePoint (Answer V)

-- the table, for a value of another type than that of the closures
abbrev pub once_table_of : {V X : Type 0} → Option X → Table ℕ X (OnceCall V) OncePoint (Answer (Unit {0}))
once_table_of value =
    usual_table value once (if is_some value then 2 else 0) one_number (λ c h. Look) act_of (λ c h. asks_of c)

abbrev pub once_table : {V : Type 0} → Option V → Table ℕ V (OnceCall V) OncePoint (Answer (Unit {0}))
once_table value = once_table_of value

abbrev pub once_machine : {V : Type 0} → Option V → OnceMachine V
once_machine value = machine_with (once_table value) brings_of
