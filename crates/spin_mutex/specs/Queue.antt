-- The rule of a lock of tickets: its cell executes the table of tickets. The words are those of a plain lock that has the tickets of all
-- parties that wait or have entered.
use Rattle.std.specs.Prelude.{ℕ, true, false, List, Option, Some, None, map}
use Rattle.spin_step.specs.Plain.{next_word, serving_word}
use Rattle.spin_core.specs.Views.{Part, idle, queues, knows_served, Encodes}
use Rattle.spin_core.specs.Own.{Numbered}
use Rattle.spin_core.specs.declared.trace.Trace.{Trace}
use Rattle.spin_step.specs.declared.answer.Answer.{Answer}
use Rattle.spin_step.specs.declared.place.Hold.{Hold}
use Rattle.spin_step.specs.declared.place.Hold.TheVariants.{Ticket}
use Rattle.spin_step.specs.declared.place.Seat.{Seat}
use Rattle.spin_step.specs.declared.ticket_calls.TicketCall.{TicketCall}
use Rattle.spin_step.specs.declared.ticket_calls.TicketCall.TheVariants.{Lock, TryLock, IsLocked}
use Rattle.spin_step.specs.declared.ticket_calls.TicketPoint.{TicketPoint}
use Rattle.spin_step.specs.declared.ticket_calls.TicketPoint.TheVariants.{LoadNext, Take, Await, TryLoadServing, TryTake, LookNext}
use Rattle.spin_step.specs.declared.ticket_calls.TicketWords.{TicketWords}
use Rattle.spin_step.specs.Machines.{Machine}
use Rattle.spin_step.specs.Schedules.{Entry}
use Rattle.spin_step.specs.TicketCalls.{ticket_table}
use Rattle.spin_core.specs.declared.tie.Opening.{Opening}
use Rattle.spin_step.specs.Acts.{Table}
use Rattle.spin_session.specs.Meaning.{Meaning, with_second, RunsOn, model_at, part_of}

-- what a party is in the plain lock while its call rests at this point
abbrev pub part_at : TicketCall → TicketPoint → Option Hold → Option Part
part_at Lock LoadNext None = Some idle
part_at Lock (Take n) None = Some idle
part_at Lock (Await n) None = Some (queues n false)
part_at TryLock (TryLoadServing n) None = Some idle
part_at TryLock (TryTake n) None = Some (knows_served n)
part_at IsLocked (LookNext n) None = Some idle
part_at _ l h = None

abbrev pub held_at : Hold → Part
held_at hold = elim hold [ Ticket n ↦ queues n true | _ ↦ idle ]

abbrev pub ticket_meaning : Meaning TicketCall TicketPoint
ticket_meaning = record { cap = 0; word = next_word; second = serving_word; bounds = λ n. Unit {0}; shares = false; part = part_at; held = held_at }

-- where a party sits in the model
abbrev pub View : Type 0
View = Seat TicketCall TicketPoint

abbrev pub part : View → Part
part = part_of ticket_meaning

abbrev pub seat_of : View → View
seat_of seat = seat

-- the lock's two words for these words of the model
abbrev pub words_of : TicketWords → ℕ × ℕ
words_of w = (w.next, w.serving)

-- an entry of the lock's trace
abbrev pub Made : Type 0 → Type 0
Made T = Entry TicketCall T

abbrev pub Word : ℕ → ℕ → List View → Type 0
Word = Encodes part 0 next_word serving_word

-- the seats of the parties
abbrev pub views : List (Numbered View) → List View
views vs = map (λ v. v.0) vs

module _ {T : Type 0} where
  -- the table of a lock whose first ticket has this number, and the lock's model
  abbrev pub ticket_tables : ℕ → T → Table TicketWords T TicketCall TicketPoint (Answer T)
  ticket_tables first value = ticket_table value first

  abbrev pub model : Opening T → Machine TicketWords T TicketCall TicketPoint (Answer T)
  model = model_at ticket_tables

  -- what holds of the next number, the trace with the served number, and the parties
  abbrev pub IsQueue : Opening T → ℕ → Trace (Made T) ℕ → List (Numbered View) → Type 0
  IsQueue = RunsOn ticket_tables ticket_meaning with_second
