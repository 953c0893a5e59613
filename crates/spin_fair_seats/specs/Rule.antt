-- The rule of fair seats: its cell runs the table, as the meaning says.
use Rattle.std.specs.Prelude.{ℕ, false, List, count_by}
use Rattle.spin_core.specs.Own.{Numbered}
use Rattle.spin_core.specs.Views.{Part}
use Rattle.spin_core.specs.declared.tie.Opening.{Opening}
use Rattle.spin_core.specs.declared.trace.Trace.{Trace}
use Rattle.spin_step.specs.Asks.{is_read}
use Rattle.spin_step.specs.Schedules.{Entry}
use Rattle.spin_step.specs.declared.place.Seat.{Seat}
use Rattle.spin_step.specs.declared.place.Seat.TheVariants.{Holding}
use Rattle.spin_session.specs.Meaning as session
use Rattle.spin_fair_seats.specs.Meaning.{fair_seats_meaning}
use Rattle.spin_fair_seats.specs.Table.{TableOfFairSeats, FairSeatsMachine, fair_seats_table, fair_seats_machine}
use Rattle.spin_fair_seats.specs.declared.calls.FairSeatsWords.{FairSeatsWords}
use Rattle.spin_fair_seats.specs.declared.calls.FairSeatsCall.{FairSeatsCall}
use Rattle.spin_fair_seats.specs.declared.calls.FairSeatsPoint.{FairSeatsPoint}

abbrev pub View : Type 0
View = Seat FairSeatsCall FairSeatsPoint

abbrev pub Made : Type 0
Made = Entry FairSeatsCall (Unit {0})

abbrev pub fair_seats_tables : ℕ → ℕ → Unit {0} → TableOfFairSeats
fair_seats_tables n start value = fair_seats_table n

abbrev pub model : ℕ → FairSeatsMachine
model = fair_seats_machine

abbrev pub words_of : FairSeatsWords → ℕ × ℕ
words_of w = (w.next, w.given)

abbrev pub part : ℕ → View → Part
part n = session.part_of (fair_seats_meaning n)

abbrev pub AreFairSeats : ℕ → ℕ → ℕ → List View → Type 0
AreFairSeats n = session.AreWords session.with_second (fair_seats_meaning n)

abbrev pub IsFairSeats : ℕ → Opening (Unit {0}) → ℕ → Trace Made ℕ → List (Numbered View) → Type 0
IsFairSeats n = session.RunsOn (fair_seats_tables n) (fair_seats_meaning n) session.with_second

-- how many of the parties sit
abbrev pub sitting : List View → ℕ
sitting views = count_by (λ v. elim v [ Holding h ↦ is_read h | _ ↦ false ]) views
