-- What a pass of a read-write lock knows, and what its calls do.
use Rattle.std.specs.Prelude.{◌≡◌, ◌==◌, ℕ, Bool, List}
use base.Fml.{Fml}
use denote.RattleType.{RattleType}
use Rattle.std.specs.Option.{IfSome}
use Rattle.spin_core.specs.Cell.{Starts, Ways}
use Rattle.spin_core.specs.Own.{Numbered}
use Rattle.spin_core.specs.Values.{IsLast}
use Rattle.spin_core.specs.declared.tie.Opening.{Opening}
use Rattle.spin_core.specs.declared.trace.Trace.{Trace}
use Rattle.spin_core.specs.declared.trace.Watch.{Watch}
use Rattle.spin_step.specs.declared.answer.Answer.{Answer}
use Rattle.spin_step_more.specs.contracts.rw_calls.RwCall as call
use Rattle.spin_step.specs.declared.answer.Answer.TheVariants.{Count, Granted}
use Rattle.spin_step_more.specs.declared.rw_calls.RwCall.{RwCall}
use Rattle.spin_step_more.specs.declared.rw_calls.RwCall.TheVariants.{WriterCount}
use Rattle.spin_session.specs.Meaning.{just_one}
use Rattle.spin_session.specs.Passes as session
use Rattle.spin_session.specs.Ending as ending
pub use Rattle.spin_session.specs.Ending.{Includes, Recalls}
use Rattle.spin_session.specs.Turns as turns
pub use Rattle.spin_session.specs.Passes.{◌⨾◌, After, Learns, history, lock_of, new_in, opening_of, party, OpensWith}
use Rattle.spin_rwlock.specs.Rw.{Done, View, rw_meaning, rw_tables}
pub use Rattle.spin_rwlock.specs.Guards.{HasFound, RwSpot, shared_spot, write_spot, KnowsItsSteps}
use Rattle.spin_rwlock.specs.Guards.{RwLockWriteGuard, shared_value, write_value}
use Rattle.spin_rwlock.specs.declared.rwlock.RwLock.{RwLock}
use Rattle.spin_rwlock.specs.declared.rwlock.reader.SharedGuard.{SharedGuard}
use Rattle.spin_rwlock.specs.declared.rwlock.rule.Kind.{Ghosts}

-- what was fixed when a lock under any rule was made
abbrev pub key_of : {T R V P K S : Type 0} → RwLock T R V P K S → K
key_of lock = lock.cell

-- The history of a lock under this rule is a schedule of the model. Unless a party still writes the value, the value is the one written last.
abbrev pub Ends : {T V S : Type 0} → (ℕ → S → List V → Type 0) → Ways T V S → T × S → Type 0
Ends holds ways end = (word : ℕ) × Starts holds ways word end.1 end.0

module _ {T R P S : Type 0} where
  -- what was fixed when the lock was made: the name of its history, and the value that it opened with
  abbrev pub opening : RwLock T R (Numbered View) P (Opening T) S → Opening T
  opening lock = lock.cell

  -- the name of a lock's history
  abbrev pub name_of : RwLock T R (Numbered View) P (Opening T) S → ℕ
  name_of lock = (opening lock).name

-- what some watch knew, of which this holds
abbrev pub known : (T : RattleType) → (Watch (Done T.Denot) → Type 0) → Fml
known = ending.known call.the_row

module _ {T : Type 0} where
  -- A new party of this lock has made exactly this call, with this answer. The watch knows what the party then knew.
  abbrev pub OneCall : RwCall → Answer (Unit {0}) → Opening T → Watch (Done T) → Type 0
  OneCall = ending.OneCall rw_tables

  -- such a party has counted the writers, and the answer is whether there was one
  abbrev pub OneCallFor : Bool → Opening T → Watch (Done T) → Type 0
  OneCallFor answer lock seen = (n : ℕ) × OneCall WriterCount (Count n) lock seen × (answer ≡ (n == 1))

  -- from `before` to `now` the pass has made exactly this call, with this answer
  abbrev pub Calls : RwCall → Answer (Unit {0}) → RwSpot T → RwSpot T → Type 0
  Calls = turns.Calls rw_tables

  -- From `before` to `now` the pass has written a value, and has then made this call. If the lock tells its values, the value is x.
  abbrev pub Wrote : RwCall → T → RwSpot T → RwSpot T → Type 0
  Wrote = session.Wrote rw_tables

  -- from `before` to `now` the pass has written some value, and has then made this call
  abbrev pub WroteSome : RwCall → RwSpot T → RwSpot T → Type 0
  WroteSome = session.WroteSome rw_tables

  -- From `before` to `now` the pass has acquired the lock by this call, and has found this value: the one written last.
  abbrev pub FoundBy : RwCall → T → RwSpot T → RwSpot T → Type 0
  FoundBy = session.FoundBy rw_tables

  -- The history is a schedule of the model, and nobody still writes the value: it is the one written last.
  abbrev pub Settles : Opening T → T × Trace (Done T) (Unit {0}) → Type 0
  Settles = ending.Settles rw_tables rw_meaning just_one

  module _ {R K : Type 0} {kind : Ghosts K} where
    -- the guard's value is the one written last, of all that the party at `now` knows
    abbrev pub ShowsLast : SharedGuard T K R kind → RwSpot T → Type 0
    ShowsLast guard now = IfSome (shared_value guard) (IsLast (opening_of now) (history now))

    -- By this call, so answered, the party at `before` is a reader with this guard, whose value is the one written last.
    abbrev pub Lends : RwCall → Answer (Unit {0}) → RwSpot T → SharedGuard T K R kind → Type 0
    Lends call answer before guard = let now = shared_spot guard in ShowsLast guard now × Calls call answer before now

  module _ {R P S : Type 0} where
    -- By this call the party at `before` is the writer with this guard, whose value is the one written last.
    abbrev pub Grants : RwCall → RwSpot T → RwLockWriteGuard T R P S → Type 0
    Grants call before guard = let now = write_spot guard in KnowsItsSteps guard × IsLast (opening_of now) (history now) (write_value guard) × Calls call Granted before now

    -- The writer has written the guard's value, so this is the one written last, and has then made this call.
    abbrev pub Unlocks : RwCall → RwLockWriteGuard T R P S → RwSpot T → Type 0
    Unlocks call guard now = Wrote call (write_value guard) (write_spot guard) now × IsLast (opening_of (write_spot guard)) (history now) (write_value guard)

  module _ {R P S K : Type 0} {kind : Ghosts K} where
    -- If the writer knows its lock's history, it has written its value, and has become the reader with this guard by this call.
    abbrev pub Lowers : RwCall → RwLockWriteGuard T R P S → SharedGuard T K R kind → Type 0
    Lowers call writer reader = KnowsItsSteps writer → Unlocks call writer (shared_spot reader)
