-- What a pass of a `LazyLock` knows, and what its calls do.
use Rattle.std.specs.Prelude.{ℕ, Option}
use Rattle.spin_core.specs.declared.trace.Trace.{Trace}
use Rattle.spin_once.specs.OnceValues.{Valued}
use Rattle.spin_once.specs.Passes as passes
pub use Rattle.spin_once.specs.Passes.{◌⨾◌, After, AreOfOne, Calls, Gets, Gives, Has, Includes, Never, OpensWithValues, Recalls, TellsValue, WroteNone, given, history, lock_of, new_in, opening_of, party, moves_made}
use Rattle.spin_step.specs.declared.once_calls.OnceCall.TheVariants.{CallOnce}
use Rattle.spin_once.specs.Accounts.{Place}
use Rattle.spin_once.specs.declared.lazylock.LazyLock.{LazyLock}
use Rattle.spin_once.specs.declared.lazylock.Initialiser.{Initialiser}
use Rattle.spin_once.specs.declared.once_core.rule.Key.{Key}

module _ {T F R M : Type 0} where
  -- what was fixed when the `LazyLock` was made
  abbrev pub opening : LazyLock T F R M → Key T (Initialiser F M)
  opening lazy = lazy.core.cell

  -- the name of a `LazyLock`'s history
  abbrev pub name_of : LazyLock T F R M → ℕ
  name_of lazy = (opening lazy).opening.name

module _ {T F M : Type 0} where
  -- the initialiser of the `LazyLock`, as a pass keeps it
  abbrev pub initialiser_of : Place T (Initialiser F M) → F
  initialiser_of pass = pass.0.seed.value.f.inner

  -- what is promised of the value, as a pass keeps it
  abbrev pub promise_of : Place T (Initialiser F M) → M
  promise_of pass = pass.0.seed.value.promise

  -- by one `CallOnce` the pass has got this value; if the pass wrote it, it keeps the promise
  abbrev pub Forces : (M → T → Type 0) → Place T (Initialiser F M) → T → Place T (Initialiser F M) → Type 0
  Forces keeps before value now = Gets (CallOnce tt) (keeps (promise_of before)) before value now

  -- by one `CallOnce` a party at `before` has got this value, as in `Forces`
  abbrev pub Forced : (M → T → Type 0) → Place T (Initialiser F M) → T → Type 0
  Forced keeps before value = Gives (CallOnce tt) (keeps (promise_of before)) before value

  -- what the owner of a `LazyLock` gets at its end: the value, which keeps the promise, or none, and the whole history
  abbrev pub Ends : (M → T → Type 0) → Key T (Initialiser F M) → Option T × Trace (Valued T) (Unit {0}) → Type 0
  Ends keeps = passes.Ends (λ seed value. keeps seed.promise value)
