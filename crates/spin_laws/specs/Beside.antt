-- What holds of other calls while a party holds a lock.
use Rattle.std.specs.Prelude.{◌≡◌, ◌≤◌, ℕ, Bool, true, false, List, [], ◌++◌, length}
use mathlib.Core.List.{IsPrefix}
use Rattle.spin_core.specs.Own.{MadeNone, entries_by}
use Rattle.spin_core.specs.Passes.{HasNumber, own_mark}
use Rattle.spin_step.specs.Acts.{Table}
use Rattle.spin_step.specs.Schedules.{Entry}
use Rattle.spin_step.specs.declared.answer.Answer.{Answer}
use Rattle.spin_step.specs.declared.answer.Answer.TheVariants.{Done, Granted, Is}
use Rattle.spin_step_more.specs.declared.fair_calls.FairCall.{FairCall}
use Rattle.spin_step_more.specs.declared.fair_calls.FairCall.TheVariants.{Starve}
use Rattle.spin_step_more.specs.declared.rw_calls.RwCall.{RwCall}
use Rattle.spin_step_more.specs.declared.rw_calls.RwCall.TheVariants.{Write, TryWrite, Upgrade, TryUpgrade}
use Rattle.spin_session.specs.Passes.{AreTwo, history, opening_of, party}
use Rattle.spin_session.specs.Turns.{SeatSpot, Calls}

module _ {V C L : Type 0} where
  -- the party knows the history of its lock, at least up to its last step, as each guard does
  abbrev pub KnowsItsSteps : SeatSpot V C L → Type 0
  KnowsItsSteps now = own_mark (party now) ≤ length (history now)

  -- The party has made no move after its last step, up to the history that it knows. Its next call says so of the spot
  -- at which it begins.
  abbrev pub Rests : SeatSpot V C L → Type 0
  Rests now = (p : ℕ) × MadeNone (history now) p (party now)

  -- the pass or guard at `late` is the one at `now`, and may know more
  abbrev pub IsLater : SeatSpot V C L → SeatSpot V C L → Type 0
  IsLater now late = (opening_of late ≡ opening_of now) × (party late ≡ party now) × IsPrefix (history now) (history late)

-- For the calls of a lock with these tables:
module _ {W V C L : Type 0} (t : ℕ → V → Table W V C L (Answer V)) where
  -- A party at `granted` has got the lock by a call that passes the test, and up to `late` has made no move. A look of
  -- another party began after that, and is known at `late`. So the look is true.
  abbrev pub LooksTrue : (C → Bool) → C → Type 0
  LooksTrue acquires look =
      (held : Bool) (call : C) (start granted before now late : SeatSpot V C L) → acquires call ≡ true → Calls t call Granted start granted → KnowsItsSteps granted
      → opening_of before ≡ opening_of granted → IsPrefix (history granted) (history before) → Calls t look (Is held) before now → IsPrefix (history now) (history late)
      → IsLater granted late → Rests late → held ≡ true

  -- A party at `granted` has got the lock by a call that passes the first test, has made no move up to `late`, and has
  -- then released it, without a write. Another party is granted the lock by a call that passes the second test, and then
  -- knows of the first grant. So its grant comes after the release: in what is known at `end` the first party makes no
  -- move after it.
  abbrev pub WritesBehind : (C → Bool) → (C → Bool) → C → Type 0
  WritesBehind acquires writes release =
      (call other : C) (start granted late end before now : SeatSpot V C L) (rest : List (Entry C V)) (p : ℕ) → acquires call ≡ true → Calls t call Granted start granted
      → KnowsItsSteps granted → IsLater granted late → Calls t release Done late end → HasNumber p (party end)
      → writes other ≡ true → opening_of before ≡ opening_of granted → Calls t other Granted before now → AreTwo granted now → IsPrefix (history granted) (history now)
      → history now ++ rest ≡ history end → entries_by p rest ≡ []

-- the call of a `FairMutex` asks for the lock, and not for a registration alone
abbrev pub is_lock : FairCall → Bool
is_lock call = elim call [ Starve ↦ false | _ ↦ true ]

-- the call of an `RwLock` asks for exclusive access
abbrev pub is_exclusive : RwCall → Bool
is_exclusive call = elim call [ Write ↦ true | TryWrite ↦ true | Upgrade ↦ true | TryUpgrade ↦ true | _ ↦ false ]
