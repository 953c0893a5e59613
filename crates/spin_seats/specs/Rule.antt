-- The rule of a lock of seats: its cell runs the table, as the meaning says.
use Rattle.std.specs.Prelude.{ℕ, false, List, count_by}
use Rattle.spin_core.specs.Own.{Numbered}
use Rattle.spin_core.specs.Views.{Part}
use Rattle.spin_core.specs.declared.tie.Opening.{Opening}
use Rattle.spin_core.specs.declared.trace.Trace.{Trace}
use Rattle.spin_step.specs.Asks.{is_read}
use Rattle.spin_step.specs.Schedules.{Entry}
use Rattle.spin_step.specs.declared.place.Seat.{Seat}
use Rattle.spin_step.specs.declared.place.Seat.TheVariants.{Holding}
use Rattle.spin_session.specs.Meaning as session
use Rattle.spin_seats.specs.Meaning.{seats_meaning}
use Rattle.spin_seats.specs.Table.{TableOfSeats, SeatsMachine, seats_table, seats_machine}
use Rattle.spin_seats.specs.declared.calls.SeatsCall.{SeatsCall}
use Rattle.spin_seats.specs.declared.calls.SeatsPoint.{SeatsPoint}

-- what a party is to the lock: its seat in the model, which is no seat of the lock
abbrev pub View : Type 0
View = Seat SeatsCall SeatsPoint

abbrev pub Done : Type 0
Done = Entry SeatsCall (Unit {0})

-- the table of a lock of n seats for each number with which the word opens; it opens with 0
abbrev pub seats_tables : ℕ → ℕ → Unit {0} → TableOfSeats
seats_tables n start value = seats_table n

abbrev pub model : ℕ → SeatsMachine
model = seats_machine

-- the lock's two words for this word of the model; the second word is empty
abbrev pub words_of : ℕ → ℕ × Unit {0}
words_of w = (w, tt)

-- what a party in this seat is in the plain lock
abbrev pub part : ℕ → View → Part
part n = session.part_of (seats_meaning n)

abbrev pub IsWord : ℕ → ℕ → Unit {0} → List View → Type 0
IsWord n = session.AreWords session.just_one (seats_meaning n)

abbrev pub IsSeats : ℕ → Opening (Unit {0}) → ℕ → Trace Done (Unit {0}) → List (Numbered View) → Type 0
IsSeats n = session.RunsTable (seats_tables n) (seats_meaning n)

-- how many of the parties have a seat
abbrev pub seats_taken : List View → ℕ
seats_taken views = count_by (λ v. elim v [ Holding h ↦ is_read h | _ ↦ false ]) views
