-- What a pass or a guard of fair seats knows, and what it has done.
use Rattle.std.specs.Prelude.{ℕ, List}
use Rattle.spin_core.specs.Own.{Numbered}
use Rattle.spin_core.specs.declared.trace.Trace.{Trace}
use Rattle.spin_core.specs.declared.tie.Opening.{Opening}
use Rattle.spin_step.specs.declared.answer.Answer.{Answer}
use Rattle.spin_session.specs.Turns as turns
use Rattle.spin_session.specs.Turns.{SeatSpot}
pub use Rattle.spin_session.specs.Ending.{Includes, Recalls}
pub use Rattle.spin_session.specs.Passes.{◌⨾◌, After, history, lock_of, new_in, opening_of, party, OpensWith, Learns}
use Rattle.spin_fair_seats.specs.Rule.{Made, IsFairSeats, View, fair_seats_tables}
use Rattle.spin_fair_seats.specs.declared.calls.FairSeatsCall.{FairSeatsCall}
use Rattle.spin_fair_seats.specs.declared.calls.FairSeatsPoint.{FairSeatsPoint}
use Rattle.spin_fair_seats.specs.declared.seats.FairSeats.{FairSeats}

abbrev pub FairSeatsSpot : Type 0
FairSeatsSpot = SeatSpot (Unit {0}) FairSeatsCall FairSeatsPoint

module _ {n : ℕ} {R : Type 0} where
  -- what was fixed when the lock was made
  abbrev pub opening : FairSeats n R → Opening (Unit {0})
  opening lock = lock.cell

  -- the name of a lock's history
  abbrev pub name_of : FairSeats n R → ℕ
  name_of lock = (opening lock).name

-- from `before` to `now` the party has made exactly this call of a lock of n seats, with this answer
abbrev pub Calls : ℕ → FairSeatsCall → Answer (Unit {0}) → FairSeatsSpot → FairSeatsSpot → Type 0
Calls n = turns.Calls (fair_seats_tables n)

-- the whole history of a lock of n seats is a schedule of its model, which leads to the lock's words and to these parties
abbrev pub Ends : ℕ → Opening (Unit {0}) → Trace Made ℕ → Type 0
Ends n opening whole = (word : ℕ) × (parties : List (Numbered View)) × IsFairSeats n opening word whole parties
