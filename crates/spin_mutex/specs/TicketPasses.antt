-- What a pass of a `TicketMutex` knows, and what its calls do.
use Rattle.std.specs.Prelude.{ℕ}
use base.Fml.{Fml}
use denote.RattleType.{RattleType}
use Rattle.spin_core.specs.Guard.{Guard}
use Rattle.spin_core.specs.Own.{Numbered}
use Rattle.spin_core.specs.declared.tie.Opening.{Opening}
use Rattle.spin_core.specs.declared.trace.Trace.{Trace}
use Rattle.spin_core.specs.declared.trace.Watch.{Watch}
use Rattle.spin_step.specs.declared.answer.Answer.{Answer}
use Rattle.spin_step.specs.contracts.ticket_calls.TicketCall as call
pub use Rattle.spin_step.specs.declared.ticket_calls.TicketCall.{TicketCall}
pub use Rattle.spin_step.specs.declared.ticket_calls.TicketCall.TheVariants.{Lock, TryLock, IsLocked, Release}
use Rattle.spin_step.specs.declared.ticket_calls.TicketPoint.{TicketPoint}
use Rattle.spin_session.specs.Meaning.{with_second}
use Rattle.spin_session.specs.Passes as session
use Rattle.spin_session.specs.Ending as ending
pub use Rattle.spin_session.specs.Ending.{Includes, Recalls}
use Rattle.spin_session.specs.Turns as turns
use Rattle.spin_session.specs.Turns.{SeatSpot}
pub use Rattle.spin_session.specs.Passes.{◌⨾◌, After, history, lock_of, new_in, opening_of, party, OpensAt, OpensWith, Holds, Learns}
use Rattle.spin_mutex.specs.Queue.{Made, View, ticket_meaning, ticket_tables}
use Rattle.spin_mutex.specs.declared.ticket.TicketMutex.{TicketMutex}

module _ {T R : Type 0} where
  -- what was fixed when the lock was made
  abbrev pub opening : TicketMutex T R → Opening T
  opening lock = lock.cell

  -- the name of a lock's history
  abbrev pub name_of : TicketMutex T R → ℕ
  name_of lock = (opening lock).name

abbrev pub TicketSpot : Type 0 → Type 0
TicketSpot T = SeatSpot T TicketCall TicketPoint

-- what some watch knew, of which this holds
abbrev pub known : (T : RattleType) → (Watch (Made T.Denot) → Type 0) → Fml
known = ending.known call.the_row

module _ {T : Type 0} where
  -- A new party of this lock has made exactly this call, with this answer. The watch knows what the party then knew.
  abbrev pub OneCall : TicketCall → Answer (Unit {0}) → Opening T → Watch (Made T) → Type 0
  OneCall = ending.OneCall ticket_tables

  -- from `before` to `now` the pass has made exactly this call, with this answer
  abbrev pub Calls : TicketCall → Answer (Unit {0}) → TicketSpot T → TicketSpot T → Type 0
  Calls = turns.Calls ticket_tables

  -- From `before` to `now` the pass has written a value, and has then made this call. If the lock tells its values, the value is x.
  abbrev pub Wrote : TicketCall → T → TicketSpot T → TicketSpot T → Type 0
  Wrote = session.Wrote ticket_tables

  -- from `before` to `now` the pass has written some value, and has then made this call
  abbrev pub WroteSome : TicketCall → TicketSpot T → TicketSpot T → Type 0
  WroteSome = session.WroteSome ticket_tables

  -- From `before` to `now` the pass has acquired the lock by this call, and has found this value: the one written last.
  abbrev pub FoundBy : TicketCall → T → TicketSpot T → TicketSpot T → Type 0
  FoundBy = session.FoundBy ticket_tables

  -- The history is a schedule of the model. Unless a party still writes the value, the value is the one written last.
  abbrev pub Ends : Opening T → T × Trace (Made T) ℕ → Type 0
  Ends = ending.Ends ticket_tables ticket_meaning with_second

  -- the same where no party still writes: the value is the one written last
  abbrev pub Settles : Opening T → T × Trace (Made T) ℕ → Type 0
  Settles = ending.Settles ticket_tables ticket_meaning with_second

  module _ {P R S : Type 0} where
    -- By this call the party at the spot has acquired the guard, whose value is the one written last.
    abbrev pub Grants : TicketCall → TicketSpot T → Guard T (Numbered View) (Made T) P R (Opening T) S → Type 0
    Grants = session.Grants ticket_tables ticket_meaning

    -- The party has written the guard's value, so this is the one written last, and has then released the lock.
    abbrev pub Unlocks : Guard T (Numbered View) (Made T) P R (Opening T) S → TicketSpot T → Type 0
    Unlocks = session.Unlocks ticket_tables Release
