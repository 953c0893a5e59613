-- What a pass of a `Once` knows, and what its calls do.
use Rattle.std.specs.Prelude.{ℕ, Option}
use Rattle.spin_core.specs.declared.trace.Trace.{Trace}
use Rattle.spin_once.specs.OnceValues.{Valued}
use Rattle.spin_once.specs.Passes as passes
pub use Rattle.spin_once.specs.Passes.{◌⨾◌, After, AreOfOne, Calls, Gets, Gives, Has, Includes, Never, OkGets, OkGives, OpensWithValues, Recalls, TellsValue, Tried, WroteNone, found_or_none, given, history, lock_of, new_in, opening_of, party, moves_made}
use Rattle.spin_once.specs.declared.once.Once.{Once}
use Rattle.spin_once.specs.declared.once_core.rule.Key.{Key}

module _ {T R : Type 0} where
  -- what was fixed when the `Once` was made
  abbrev pub opening : Once T R → Key T (Unit {0})
  opening once = once.core.cell

  -- the name of a `Once`'s history
  abbrev pub name_of : Once T R → ℕ
  name_of once = (opening once).opening.name

-- what the owner of a `Once` gets at its end: the value or none, and the whole history
abbrev pub Ends : {T : Type 0} → Key T (Unit {0}) → Option T × Trace (Valued T) (Unit {0}) → Type 0
Ends = passes.Ends (λ seed value. Unit {0})
