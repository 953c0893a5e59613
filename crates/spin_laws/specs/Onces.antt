-- The calls of a pass of a `Once` or a `LazyLock`, as calls of the object `Once`. In the history of the pass, only a
-- later move reports that a call's closure fails. In the object's schedule the name of the call already says at its
-- beginning that the closure fails. `foretold` makes this schedule from the history.
use Rattle.std.specs.Prelude.{◌≡◌, Bool, true, Option, List, length, take}
use Rattle.spin_step.specs.Plain.{Plain, is_complete}
use Rattle.spin_core.specs.Own.{Numbered}
use Rattle.spin_core.specs.Passes as passes
use Rattle.spin_core.specs.Passes.{IsCall}
use Rattle.spin_step.specs.declared.answer.Answer.{Answer}
use Rattle.spin_step.specs.declared.answer.Answer.TheVariants.{Value}
use Rattle.spin_step.specs.declared.once_calls.OnceCall.{OnceCall}
use Rattle.spin_step.specs.OnceCalls.{once_machine}
use Rattle.spin_once.specs.Foretold.{foretold}
use Rattle.spin_once.specs.Model.{model}
use Rattle.spin_once.specs.Once.{View}
use Rattle.spin_once.specs.OnceValues.{Made}
use Rattle.spin_laws.specs.Moments.{AtAMoment, AsAnswered}

-- the history `old` has grown to `new`: the part of the object's schedule for `new` that corresponds to `old`
abbrev pub foretold_till : List Made → List Made → List Made
foretold_till old new = take (length (foretold old)) (foretold new)

-- a pass has made exactly this call of a `Once`, which opened with the value `given` or empty, and has got this answer
abbrev pub Called : Option (Unit {0}) → OnceCall (Unit {0}) → Answer (Unit {0}) → Option (Numbered View) → List Made → Option (Numbered View) → List Made → Type 0
Called given call answer before old now new = passes.Made (model given) before old now new (IsCall call answer)

-- if a pass has made exactly this call and got this answer, then the plain lock of the `Once` satisfied P at a moment of the call
abbrev pub FoundOnce : OnceCall (Unit {0}) → Answer (Unit {0}) → (Plain → Type 0) → Type 0
FoundOnce call answer P =
    (given : Option (Unit {0})) (before now : Option (Numbered View)) (old new : List Made) → Called given call answer before old now new → AtAMoment (once_machine given) call now (foretold_till old new) (foretold new) P

abbrev pub has_value : Plain → Bool
has_value s = is_complete s.phase

-- if a call got the value as its answer, the `Once` had a value just after the step that answered the call
abbrev pub GaveOnce : Type 0
GaveOnce =
    (call : OnceCall (Unit {0})) (given : Option (Unit {0})) (before now : Option (Numbered View)) (old new : List Made) → Called given call (Value tt) before old now new
    → AsAnswered (once_machine given) call (Value tt) now (foretold_till old new) (foretold new) (λ s. has_value s ≡ true)
