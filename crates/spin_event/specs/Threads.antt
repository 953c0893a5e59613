-- An event on threads. The cell of its two words keeps the schedule of the table that the threads have run.
use Rattle.std.specs.Option.{MatchOption}
use Rattle.std.specs.Prelude.{◌≡◌, ℕ, zero, suc, ◌<◌, ◌⊎◌, Option, Some, None, List, [], ◌∷◌, ◌++◌, length, map}
use Rattle.spin_core.specs.Cell.{Ways, alone, off, no_fact, word_limit}
use Rattle.spin_core.specs.Own.{IsRun, Numbered, Tells, what}
use Rattle.spin_core.specs.Passes.{Says}
use Rattle.spin_core.specs.declared.tie.Opening.{Opening}
use Rattle.spin_core.specs.declared.trace.Trace.{Trace}
use Rattle.spin_step.specs.Schedules.{Entry}
use Rattle.spin_step.specs.declared.answer.Answer.{Answer}
use Rattle.spin_step.specs.declared.answer.Answer.TheVariants.{Count as Counted}
use Rattle.spin_step.specs.declared.place.Seat.TheVariants.{Idle, Calling}
use Rattle.spin_step.specs.declared.schedule.Move.{Move}
use Rattle.spin_step.specs.declared.schedule.Move.TheVariants.{Begin, Step, Weak}
use Rattle.spin_step.specs.declared.schedule.Outcome.TheVariants.{Begun, Answered}
use Rattle.spin_event.specs.declared.calls.EventWords.{EventWords}
use Rattle.spin_event.specs.declared.calls.EventCall.{EventCall}
use Rattle.spin_event.specs.declared.calls.EventCall.TheVariants.{Listen, Wait}
use Rattle.spin_event.specs.declared.calls.EventPoint.TheVariants.{Park, Asleep, Uncount, Look}
use Rattle.spin_event.specs.EventCalls.{event_machine, EventSchedule}
use Rattle.spin_event.specs.Sleeping.{EventSeat, how_many, is_counted}

abbrev pub EventEntry : Type 0
EventEntry = Entry EventCall (Unit {0})

abbrev pub EventMove : Type 0
EventMove = Move EventCall (Unit {0})

-- a party: its seat in the table, its number, and how long the schedule was after its last step
abbrev pub EventParty : Type 0
EventParty = Numbered EventSeat

-- the words of the cell are the first two of the table
abbrev pub in_words : EventWords → ℕ × ℕ
in_words w = (w.rings, w.sleepers)

-- Fewer than 2^64 moves, so that no word has wrapped: beyond them nothing is said.
abbrev pub Fits : EventSchedule → Type 0
Fits past = length past < word_limit

-- The trace is a schedule of the table, which leads to these words and to the seat of each party.
abbrev pub Runs : Opening (Unit {0}) → ℕ → Trace EventEntry ℕ → List EventParty → Type 0
Runs key n t vs = (t.name ≡ key.name)
    × (Fits t.entries → (t.word ≡ how_many is_counted (map (λ v. v.0) vs)) × IsRun event_machine (λ x. x) in_words t.entries (n, t.word) vs)

abbrev pub event_ways : Opening (Unit {0}) → Ways (Unit {0}) EventParty (Trace EventEntry ℕ)
event_ways key = (alone, (λ v. off), no_fact)

abbrev pub EventSays : Type 0 → Type 1
EventSays X = Says (Unit {0}) EventCall (Answer (Unit {0})) X

-- A step found the number n, and left its party in a seat of which `to` holds. Its moves, and their outcomes, are steps of
-- the table, of which `says` holds.
abbrev pub Made : (ℕ → EventSeat → Type 0) → EventSays EventSeat → Option EventParty → EventSchedule → EventSchedule → ℕ → EventParty → Type 0
Made to says view log es n v = to n v.0 × (Fits (log ++ es) → Tells event_machine (λ x. x) in_words says view log es n v)

abbrev pub Seats : EventSeat → ℕ → EventSeat → Type 0
Seats x n u = u ≡ x

-- these moves
abbrev pub Moves : (ℕ → List EventMove) → EventSays EventSeat
Moves own own' outs n u = own' ≡ own n

-- The steps.

abbrev pub Listens : Option EventParty → EventSchedule → EventSchedule → ℕ → EventParty → Type 0
Listens = Made (Seats Idle) (λ own outs n u. (own ≡ Begin Listen ∷ Step ∷ []) × (outs ≡ Begun ∷ Answered (Counted n) None ∷ []))

abbrev pub Counts : ℕ → Option EventParty → EventSchedule → EventSchedule → ℕ → EventParty → Type 0
Counts g = Made (Seats (Calling (Wait g) (Park g) None)) (Moves (λ n. Begin (Wait g) ∷ Step ∷ []))

-- the party has asked the kernel for a sleep: it sleeps, or it does not
abbrev pub has_parked : ℕ → EventSeat → Type 0
has_parked g x = (x ≡ Calling (Wait g) Uncount None) ⊎ ((t : ℕ) × (x ≡ Calling (Wait g) (Asleep g t) None))

-- It has asked with the number that it has heard.
abbrev pub Parks : ℕ → Option EventParty → EventSchedule → EventSchedule → ℕ → EventParty → Type 0
Parks g = Made (λ n u. (n ≡ g) × has_parked g u) (Moves (λ n. Step ∷ []))

-- the party has slept, or was not let sleep
abbrev pub has_slept : EventSeat → Type 0
has_slept x = elim x [ Calling c Uncount None ↦ Unit {0} | Calling c (Asleep g t) None ↦ Unit {0} | _ ↦ ⊥ ]

abbrev pub IsSlept : Option EventParty → Type 0
IsSlept view = MatchOption view ⊥ (λ v. has_slept v.0)

-- a sleep that has ended has ended by a wake, or for no reason
abbrev pub ends_by : Option EventSeat → List EventMove
ends_by x = elim x [ Some (Calling c (Asleep g t) h) ↦ Weak ∷ Step ∷ [] | _ ↦ Step ∷ [] ]

abbrev pub Uncounts : Option EventParty → EventSchedule → EventSchedule → ℕ → EventParty → Type 0
Uncounts view = Made (Seats Idle) (Moves (λ n. ends_by (what view))) view

abbrev pub Rings : EventCall → Option EventParty → EventSchedule → EventSchedule → ℕ → EventParty → Type 0
Rings c = Made (Seats (Calling c Look None)) (Moves (λ n. Begin c ∷ Step ∷ []))

-- it looks, and if it finds somebody counted, it wakes
abbrev pub look_moves : ℕ → List EventMove
look_moves zero = Step ∷ []
look_moves (suc n) = Step ∷ Step ∷ []

abbrev pub Looks : Option EventParty → EventSchedule → EventSchedule → ℕ → EventParty → Type 0
Looks = Made (Seats Idle) (Moves look_moves)

-- the party has made a step of which `told` holds, at this log
abbrev pub After : (EventSchedule → EventSchedule → EventParty → Type 0) → Option EventParty → Type 0
After told view = MatchOption view ⊥ (λ v. (log es : EventSchedule) × told log es v)
