-- What the word and the seats of a `SpinMutex` are in the plain lock, and what holds of its cell between any two steps.
use Rattle.std.specs.Prelude.{ℕ, Bool, false, Option, Some, None, List}
use Rattle.spin_step.specs.Plain.{flag_word, writing}
use Rattle.spin_step.specs.Acts.{Table}
use Rattle.spin_step.specs.Schedules.{Entry}
use Rattle.spin_step.specs.declared.answer.Answer.{Answer}
use Rattle.spin_step.specs.FlagCalls.{flag_table}
use Rattle.spin_step.specs.declared.place.Hold.{Hold}
use Rattle.spin_step.specs.declared.place.Hold.TheVariants.{Write}
use Rattle.spin_step.specs.declared.place.Seat.{Seat}
use Rattle.spin_step.specs.declared.flag_calls.FlagCall.{FlagCall}
use Rattle.spin_step.specs.declared.flag_calls.FlagCall.TheVariants.{Lock}
use Rattle.spin_step.specs.declared.flag_calls.FlagPoint.{FlagPoint}
use Rattle.spin_core.specs.Own.{Numbered}
use Rattle.spin_core.specs.Views.{Part, idle, holds}
use Rattle.spin_core.specs.declared.tie.Opening.{Opening}
use Rattle.spin_core.specs.declared.trace.Trace.{Trace}
use Rattle.spin_session.specs.Meaning as session
use Rattle.spin_session.specs.Meaning.{Meaning, RunsTable}

-- a party that waits has nothing; it waits in a `Lock`, as every other call has one step
abbrev pub part_at : FlagCall → FlagPoint → Option Hold → Option Part
part_at Lock l None = Some idle
part_at _ l h = None

abbrev pub held_at : Hold → Part
held_at hold = elim hold [ Write ↦ holds writing | _ ↦ idle ]

abbrev pub flag_meaning : Meaning FlagCall FlagPoint
flag_meaning = record { cap = 0; word = flag_word; second = λ s. 0; bounds = λ n. Unit {0}; shares = false; part = part_at; held = held_at }

-- what a party is to the lock: where it is in a call, or what it holds
abbrev pub View : Type 0
View = Seat FlagCall FlagPoint

-- the lock's two words for this flag of the model; the second word is empty
abbrev pub words_of : Bool → ℕ × Unit {0}
words_of = session.words_of (flag_table {V = Unit {0}} tt)

-- For a lock of values of type T

-- the flag's table for each number with which the word opens; it opens with 0
abbrev pub flag_tables : {T : Type 0} → ℕ → T → Table Bool T FlagCall FlagPoint (Answer T)
flag_tables start = flag_table

abbrev pub Done : Type 0 → Type 0
Done T = Entry FlagCall T

-- what holds of the first word, the trace and the parties of a lock with this opening
abbrev pub IsFlag : {T : Type 0} → Opening T → ℕ → Trace (Done T) (Unit {0}) → List (Numbered View) → Type 0
IsFlag = RunsTable flag_tables flag_meaning
