-- The calls of a lock of seats, step by step, and what each step is in the plain lock.
use Rattle.std.specs.Prelude.{ℕ, Option, Some, None, nat_lt}
use Rattle.spin_step.specs.Plain.{reading, to_read, gets, releases}
use Rattle.spin_seats.specs.Seats.{seats, entered}
use Rattle.spin_step.specs.declared.place.Hold.{Hold}
use Rattle.spin_step.specs.declared.place.Hold.TheVariants.{Read}
use Rattle.spin_step.specs.declared.stepped.Next.{Next}
use Rattle.spin_step.specs.declared.stepped.Next.TheVariants.{Continue, Answers}
use Rattle.spin_step.specs.declared.answer.Answer.{Answer}
use Rattle.spin_step.specs.declared.answer.Answer.TheVariants.{Granted, Refused, Done, Count}
use Rattle.spin_seats.specs.declared.calls.SeatsCall.{SeatsCall}
use Rattle.spin_seats.specs.declared.calls.SeatsCall.TheVariants as call
use Rattle.spin_seats.specs.declared.calls.SeatsPoint.{SeatsPoint}
use Rattle.spin_seats.specs.declared.calls.SeatsPoint.TheVariants.{First, Exchange}
use Rattle.spin_step.specs.Calls.{Asked}
use Rattle.spin_step.specs.Asks.{is_read, looks_and_tries, waits, counts_readers, gives_back}
use Rattle.spin_seats.specs.Kind as kind
use Rattle.spin_step.specs.Machines.{Machine}
use Rattle.spin_step.specs.Acts.{one_number, Act, load, load_for, attempt, retry, store, Table, machine_of}
use Rattle.spin_step.specs.Tables.{usual_table}
use Rattle.spin_step.specs.declared.table.Operation.TheVariants as op

abbrev pub SeatsNext : Type 0
SeatsNext = Next SeatsPoint (Answer (Unit {0}))

abbrev pub granted : SeatsNext
granted = Answers Granted (Some Read)

-- a call that takes a seat goes on to an exchange that expects the word found
abbrev pub goes_for : ℕ → SeatsNext
goes_for w = Continue (Exchange w)

-- A call that takes a seat loads first. Then it repeats its exchange as long as the word found has a free seat.
abbrev pub enters_by : ℕ → SeatsNext → SeatsPoint → Act ℕ SeatsPoint (Answer (Unit {0}))
enters_by n missed First = load_for (entered n) (λ p. gets p to_read) goes_for missed
enters_by n missed (Exchange k) = retry k (entered n) (λ p. gets p to_read) granted goes_for missed

abbrev pub act_of : ℕ → SeatsCall → SeatsPoint → Option Hold → Act ℕ SeatsPoint (Answer (Unit {0}))
act_of n call.TryEnter l h = enters_by n (Answers Refused h) l
act_of n call.TryEnterWeak First h = load_for (entered n) (λ p. gets p to_read) goes_for (Answers Refused h)
act_of n call.TryEnterWeak (Exchange k) h = attempt k (entered n) (λ p. gets p to_read) granted (Answers Refused h)
act_of n call.Enter l h = enters_by n (Continue First) l
act_of n call.Count l h = load (λ w. Answers (Count w) h)
act_of n call.Leave l h = store (λ w. nat_lt 0 w) (op.Subtract 1) (λ p. releases p reading) (Answers Done None)

abbrev pub asks_of : SeatsCall → Option Hold → Asked
asks_of call.TryEnter h = looks_and_tries to_read
asks_of call.TryEnterWeak h = kind.tries_once
asks_of call.Enter h = waits to_read
asks_of call.Count h = counts_readers
asks_of call.Leave h = gives_back is_read h

abbrev pub TableOfSeats : Type 0
TableOfSeats = Table ℕ (Unit {0}) SeatsCall SeatsPoint (Answer (Unit {0}))

abbrev pub seats_table : ℕ → TableOfSeats
seats_table n = record (usual_table (Some tt) kind.seats 0 one_number (λ c h. First) (act_of n) asks_of) { cap = seats n }

abbrev pub SeatsMachine : Type 0
SeatsMachine = Machine ℕ (Unit {0}) SeatsCall SeatsPoint (Answer (Unit {0}))

abbrev pub seats_machine : ℕ → SeatsMachine
seats_machine n = machine_of (seats_table n)
