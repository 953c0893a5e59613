-- What a pass or a guard of a lock of seats knows, and what it has done.
use Rattle.std.specs.Prelude.{ℕ, List}
use Rattle.spin_core.specs.Own.{Numbered}
use Rattle.spin_core.specs.declared.trace.Trace.{Trace}
use Rattle.spin_core.specs.declared.tie.Opening.{Opening}
use Rattle.spin_step.specs.declared.answer.Answer.{Answer}
use Rattle.spin_session.specs.Turns as turns
use Rattle.spin_session.specs.Turns.{SeatSpot}
pub use Rattle.spin_session.specs.Ending.{Includes, Recalls}
pub use Rattle.spin_session.specs.Passes.{◌⨾◌, After, history, lock_of, new_in, opening_of, party, OpensWith, Learns}
use Rattle.spin_seats.specs.Rule.{Done, IsSeats, View, seats_tables}
use Rattle.spin_seats.specs.declared.calls.SeatsCall.{SeatsCall}
use Rattle.spin_seats.specs.declared.calls.SeatsPoint.{SeatsPoint}
use Rattle.spin_seats.specs.declared.seats.Seats.{Seats}

abbrev pub SeatsSpot : Type 0
SeatsSpot = SeatSpot (Unit {0}) SeatsCall SeatsPoint

module _ {n : ℕ} where
  -- what was fixed when the lock was made
  abbrev pub opening : Seats n → Opening (Unit {0})
  opening lock = lock.cell

  -- The name of a lock's history. `name_of` takes it from the lock, and `lock_of` from a pass of the lock.
  abbrev pub name_of : Seats n → ℕ
  name_of lock = (opening lock).name

-- from `before` to `now` the party has made exactly this call of a lock of n seats, with this answer
abbrev pub Calls : ℕ → SeatsCall → Answer (Unit {0}) → SeatsSpot → SeatsSpot → Type 0
Calls n = turns.Calls (seats_tables n)

-- the whole history of a lock of n seats is a schedule of its model, which leads to the lock's word and to these parties
abbrev pub Ends : ℕ → Opening (Unit {0}) → Trace Done (Unit {0}) → Type 0
Ends n opening whole = (word : ℕ) × (parties : List (Numbered View)) × IsSeats n opening word whole parties
