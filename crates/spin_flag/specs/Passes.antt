-- What a pass of a `SpinMutex` knows, and what its calls do.
use Rattle.std.specs.Prelude.{ℕ}
use base.Fml.{Fml}
use denote.RattleType.{RattleType}
use Rattle.spin_core.specs.Guard.{Guard}
use Rattle.spin_core.specs.Own.{Numbered}
use Rattle.spin_core.specs.declared.tie.Opening.{Opening}
use Rattle.spin_core.specs.declared.trace.Trace.{Trace}
use Rattle.spin_core.specs.declared.trace.Watch.{Watch}
use Rattle.spin_step.specs.declared.answer.Answer.{Answer}
pub use Rattle.spin_step.specs.declared.answer.Answer.TheVariants.{Granted, Refused, Is}
pub use Rattle.spin_step.specs.declared.flag_calls.FlagCall.{FlagCall}
pub use Rattle.spin_step.specs.declared.flag_calls.FlagCall.TheVariants.{Lock, TryLock, IsLocked, Release}
use Rattle.spin_step.specs.declared.flag_calls.FlagPoint.{FlagPoint}
use Rattle.spin_step.specs.contracts.flag_calls.FlagCall as call
use Rattle.spin_session.specs.Meaning.{just_one}
use Rattle.spin_session.specs.Passes as session
use Rattle.spin_session.specs.Ending as ending
pub use Rattle.spin_session.specs.Ending.{Includes, Recalls}
use Rattle.spin_session.specs.Turns as turns
use Rattle.spin_session.specs.Turns.{SeatSpot}
pub use Rattle.spin_session.specs.Passes.{◌⨾◌, After, AreTwo, Learns, guard_spot, history, lock_of, new_in, opening_of, party, OpensWith, Holds}
use Rattle.spin_flag.specs.Flag.{Done, View, flag_meaning, flag_tables}
use Rattle.spin_flag.specs.declared.spin.SpinMutex.{SpinMutex}

module _ {T R : Type 0} where
  -- what was fixed when the lock was made
  abbrev pub opening : SpinMutex T R → Opening T
  opening lock = lock.cell

  -- the name of a lock's history
  abbrev pub name_of : SpinMutex T R → ℕ
  name_of lock = (opening lock).name

-- what some watch knew, of which this holds
abbrev pub known : (T : RattleType) → (Watch (Done T.Denot) → Type 0) → Fml
known = ending.known call.the_row

abbrev pub FlagSpot : Type 0 → Type 0
FlagSpot T = SeatSpot T FlagCall FlagPoint

module _ {T : Type 0} where
  -- A new party of this lock has made exactly this call, with this answer. The watch knows what the party then knew.
  abbrev pub OneCall : FlagCall → Answer (Unit {0}) → Opening T → Watch (Done T) → Type 0
  OneCall = ending.OneCall flag_tables

  -- from `before` to `now` the pass has made exactly this call, with this answer
  abbrev pub Calls : FlagCall → Answer (Unit {0}) → FlagSpot T → FlagSpot T → Type 0
  Calls = turns.Calls flag_tables

  -- From `before` to `now` the pass has written a value, and has then made this call. If the lock tells its values, the value is x.
  abbrev pub Wrote : FlagCall → T → FlagSpot T → FlagSpot T → Type 0
  Wrote = session.Wrote flag_tables

  -- from `before` to `now` the pass has written some value, and has then made this call
  abbrev pub WroteSome : FlagCall → FlagSpot T → FlagSpot T → Type 0
  WroteSome = session.WroteSome flag_tables

  -- From `before` to `now` the pass has acquired the lock by this call, and has found this value: the one written last.
  abbrev pub FoundBy : FlagCall → T → FlagSpot T → FlagSpot T → Type 0
  FoundBy = session.FoundBy flag_tables

  -- The history is a schedule of the model. Unless a party still writes the value, the value is the one written last.
  abbrev pub Ends : Opening T → T × Trace (Done T) (Unit {0}) → Type 0
  Ends = ending.Ends flag_tables flag_meaning just_one

  -- the same where no party still writes: the value is the one written last
  abbrev pub Settles : Opening T → T × Trace (Done T) (Unit {0}) → Type 0
  Settles = ending.Settles flag_tables flag_meaning just_one

  module _ {P R S : Type 0} where
    -- By this call the party at the spot has acquired the guard, whose value is the one written last.
    abbrev pub Grants : FlagCall → FlagSpot T → Guard T (Numbered View) (Done T) P R (Opening T) S → Type 0
    Grants = session.Grants flag_tables flag_meaning

    -- The party has written the guard's value, so this is the one written last, and has then released the lock.
    abbrev pub Unlocks : Guard T (Numbered View) (Done T) P R (Opening T) S → FlagSpot T → Type 0
    Unlocks = session.Unlocks flag_tables Release
