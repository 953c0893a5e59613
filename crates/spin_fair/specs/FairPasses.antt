-- What a pass of a `FairMutex` knows, and what its calls do. A `Starvation` is a pass that holds a registration.
use Rattle.std.specs.Prelude.{ℕ}
use base.Fml.{Fml}
use denote.RattleType.{RattleType}
use Rattle.spin_core.specs.Guard.{Guard}
use Rattle.spin_core.specs.Own.{Numbered}
use Rattle.spin_core.specs.declared.tie.Opening.{Opening}
use Rattle.spin_core.specs.declared.trace.Trace.{Trace}
use Rattle.spin_core.specs.declared.trace.Watch.{Watch}
use Rattle.spin_step.specs.declared.answer.Answer.{Answer}
use Rattle.spin_step_more.specs.contracts.fair_calls.FairCall as call
use Rattle.spin_step_more.specs.declared.fair_calls.FairCall.{FairCall}
use Rattle.spin_step_more.specs.declared.fair_calls.FairCall.TheVariants.{Release}
use Rattle.spin_step_more.specs.declared.fair_calls.FairPoint.{FairPoint}
use Rattle.spin_session.specs.Meaning.{just_one}
use Rattle.spin_session.specs.Passes as session
use Rattle.spin_session.specs.Ending as ending
pub use Rattle.spin_session.specs.Ending.{Includes, Recalls}
use Rattle.spin_session.specs.Turns as turns
use Rattle.spin_session.specs.Turns.{SeatSpot}
pub use Rattle.spin_session.specs.Passes.{◌⨾◌, After, Learns, history, lock_of, new_in, opening_of, party, OpensWith, Holds}
use Rattle.spin_fair.specs.Fair.{Done, View, fair_meaning, fair_tables}
use Rattle.spin_fair.specs.declared.fair.FairMutex.{FairMutex}

module _ {T R : Type 0} where
  -- what was fixed when the lock was made
  abbrev pub opening : FairMutex T R → Opening T
  opening lock = lock.cell

  -- the name of a lock's history
  abbrev pub name_of : FairMutex T R → ℕ
  name_of lock = (opening lock).name

abbrev pub FairSpot : Type 0 → Type 0
FairSpot T = SeatSpot T FairCall FairPoint

-- what some watch knew, of which this holds
abbrev pub known : (T : RattleType) → (Watch (Done T.Denot) → Type 0) → Fml
known = ending.known call.the_row

module _ {T : Type 0} where
  -- A new party of this lock has made exactly this call, with this answer. The watch knows what the party then knew.
  abbrev pub OneCall : FairCall → Answer (Unit {0}) → Opening T → Watch (Done T) → Type 0
  OneCall = ending.OneCall fair_tables

  -- from `before` to `now` the pass has made exactly this call, with this answer
  abbrev pub Calls : FairCall → Answer (Unit {0}) → FairSpot T → FairSpot T → Type 0
  Calls = turns.Calls fair_tables

  -- From `before` to `now` the pass has written a value, and has then made this call. If the lock tells its values, the value is x.
  abbrev pub Wrote : FairCall → T → FairSpot T → FairSpot T → Type 0
  Wrote = session.Wrote fair_tables

  -- from `before` to `now` the pass has written some value, and has then made this call
  abbrev pub WroteSome : FairCall → FairSpot T → FairSpot T → Type 0
  WroteSome = session.WroteSome fair_tables

  -- From `before` to `now` the pass has acquired the lock by this call, and has found this value: the one written last.
  abbrev pub FoundBy : FairCall → T → FairSpot T → FairSpot T → Type 0
  FoundBy = session.FoundBy fair_tables

  -- The history is a schedule of the model. Unless a party still writes the value, the value is the one written last.
  abbrev pub Ends : Opening T → T × Trace (Done T) (Unit {0}) → Type 0
  Ends = ending.Ends fair_tables fair_meaning just_one

  -- the same where no party still writes: the value is the one written last
  abbrev pub Settles : Opening T → T × Trace (Done T) (Unit {0}) → Type 0
  Settles = ending.Settles fair_tables fair_meaning just_one

  module _ {P R S : Type 0} where
    -- By this call the party at the spot has acquired the guard, whose value is the one written last.
    abbrev pub Grants : FairCall → FairSpot T → Guard T (Numbered View) (Done T) P R (Opening T) S → Type 0
    Grants = session.Grants fair_tables fair_meaning

    -- The party has written the guard's value, so this is the one written last, and has then released the lock.
    abbrev pub Unlocks : Guard T (Numbered View) (Done T) P R (Opening T) S → FairSpot T → Type 0
    Unlocks = session.Unlocks fair_tables Release
