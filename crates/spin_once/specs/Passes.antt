-- What a pass of a `Once` or a `LazyLock` knows, and what its calls do. A pass in a contract is its place: what was fixed when its lock was
-- made, its party, and all moves in the lock, at least up to the party's last step.
use Rattle.std.specs.Prelude.{◌≡◌, ◌⊎◌, ℕ, true, [], Option, List, Result, Ok, Err}
use Rattle.std.specs.Borrow.{Bor}
use Rattle.std.specs.Option.{MatchOption}
use Rattle.std.specs.Result.{IfOk}
use mathlib.Core.List.{IsPrefix}
use Rattle.spin_core.specs.Cell.{writers_of}
use Rattle.spin_core.specs.Logs.{KnowsBoth}
use Rattle.spin_core.specs.Own.{Numbered}
use Rattle.spin_core.specs.Passes.{IsCall}
use Rattle.spin_core.specs.declared.trace.Trace.{Trace}
use Rattle.spin_core.specs.declared.trace.Watch.{Watch}
use Rattle.spin_step.specs.declared.answer.Answer.{Answer}
use Rattle.spin_step.specs.declared.answer.Answer.TheVariants.{Value}
use Rattle.spin_step.specs.declared.once_calls.OnceCall.TheVariants.{TryCallOnceOk}
pub use Rattle.spin_session.specs.Passes.{◌⨾◌}
use Rattle.spin_once.specs.Accounts.{Place, MadeSince}
pub use Rattle.spin_once.specs.Accounts.{Has, WroteNone, found_or_none, new_in}
pub use Rattle.spin_once.specs.OnceValues.{OpensWithValues}
use Rattle.spin_once.specs.OnceValues.{Valued, Made, IsValue, bare, given_of, made}
use Rattle.spin_once.specs.Once.{Call, View, IsFailedCall, IsOnce, use_of_party}
use Rattle.spin_once.specs.declared.once_core.rule.Key.{Key}

-- no value is given by a call without a closure
abbrev pub Never : {T : Type 0} → T → Type 0
Never value = ⊥

module _ {T S : Type 0} where
  -- all moves in the lock that the pass knows
  abbrev pub history : Place T S → List (Valued T)
  history pass = pass.2.entries

  -- the same moves without the values, as the model has them
  abbrev pub moves_made : Place T S → List Made
  moves_made pass = bare (history pass)

  -- the name of the history of the pass's lock
  abbrev pub lock_of : Place T S → ℕ
  lock_of pass = pass.2.name

  -- what was fixed when the pass's lock was made
  abbrev pub opening_of : Place T S → Key T S
  opening_of pass = pass.0

  -- the lock's owner has not borrowed the value
  abbrev pub TellsValue : Place T S → Type 0
  TellsValue pass = pass.0.opening.told ≡ true

  -- whether the lock of a pass was made with a value
  abbrev pub given : Place T S → Option (Unit {0})
  given pass = given_of pass.0.opening.value

  -- the party of the pass; there is none before its first call
  abbrev pub party : Place T S → Option (Numbered View)
  party pass = pass.1

  -- the two passes are of one lock
  abbrev pub AreOfOne : Place T S → Place T S → Type 0
  AreOfOne mine other = (opening_of mine ≡ opening_of other) × (lock_of mine ≡ lock_of other)

  -- The pass at `now` is the one at `before`. It also knows what the pass at `earlier` knows: the longer of the two histories.
  abbrev pub After : Place T S → Place T S → Place T S → Type 0
  After earlier before now = (now.0 ≡ before.0) × (now.1 ≡ before.1) × (lock_of now ≡ lock_of before) × KnowsBoth (history before) (history earlier) (history now)

  -- from `before` to `now` the pass has made exactly this call, with this answer
  abbrev pub Calls : Call → Answer (Unit {0}) → Place T S → Place T S → Type 0
  Calls call answer before now = MadeSince before (IsCall call answer) now

  -- From `before` to `now` the pass has made one call with a closure that may fail. Either the call got the value, or its closure failed.
  abbrev pub Tried : {X E : Type 0} → Result X E → Place T S → Place T S → Type 0
  Tried (Ok value) before now = Calls (TryCallOnceOk tt) (Value tt) before now
  Tried (Err e) before now = MadeSince before IsFailedCall now

  -- The pass has made this call, and has got this value, the only one in the history. If the pass wrote it in this call, it satisfies Q.
  abbrev pub Gets : Call → (T → Type 0) → Place T S → T → Place T S → Type 0
  Gets call Q before value now = Calls call (Value tt) before now × Has now value × (Q value ⊎ WroteNone before now)

  -- a party at `before` has made this call, and has got this value
  abbrev pub Gives : Call → (T → Type 0) → Place T S → T → Type 0
  Gives call Q before value = (now : Place T S) × Gets call Q before value now

  -- the watch knows of the history what the pass knows
  abbrev pub Recalls : Place T S → Watch (Valued T) → Type 0
  Recalls pass seen = (seen.name ≡ lock_of pass) × (seen.entries ≡ history pass)

  -- the whole history contains all that some pass knew which had done this
  abbrev pub Includes : (Place T S → Type 0) → Trace (Valued T) (Unit {0}) → Type 0
  Includes did whole = (pass : Place T S) × did pass × IsPrefix (history pass) whole.entries

  -- What the owner gets at the end: a value or none, and the whole history. The history is a schedule of the model that leads to the word
  -- and to these parties. Unless one of them still runs a closure, a value may be made from the seed and is the only one in the history, and
  -- with none the history has no value.
  abbrev pub Ends : (S → T → Type 0) → Key T S → Option T × Trace (Valued T) (Unit {0}) → Type 0
  Ends makes key end =
      (word : ℕ) × (parties : List (Numbered View)) × IsOnce key.opening word end.1 parties
      × (writers_of use_of_party parties ≡ 0 → MatchOption end.0 (made key.opening.value end.1.entries ≡ []) (λ v. makes key.seed.value v × IsValue key.opening end.1.entries v))

  -- With `Ok` the pass has made this call of a closure that may fail, as in `Gets`. A value from its own closure is one that `post` allows.
  abbrev pub OkGets : {E : Type 0} → (Result T E → Type 0) → Place T S → Result (Bor T) E → Place T S → Type 0
  OkGets post before result now = IfOk result (λ value. Gets (TryCallOnceOk tt) (λ v. post (Ok v)) before value.now now)

  -- with `Ok` a party at `before` has made this call, as in `Gives`
  abbrev pub OkGives : {E : Type 0} → (Result T E → Type 0) → Place T S → Result (Bor T) E → Type 0
  OkGives post before result = IfOk result (λ value. Gives (TryCallOnceOk tt) (λ v. post (Ok v)) before value.now)
