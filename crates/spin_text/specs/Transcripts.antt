-- The text of a transcript.
use Rattle.std.specs.Prelude.{ℕ, ◌+◌, Bool, true, false, Option, Some, None, List, [], ◌∷◌, ◌++◌, codes, decimal}
use Rattle.spin_step.specs.declared.answer.Answer.{Answer}
use Rattle.spin_step.specs.declared.answer.Answer.TheVariants as answer
use Rattle.spin_step.specs.declared.schedule.Move.{Move}
use Rattle.spin_step.specs.declared.schedule.Event.{Event}
use Rattle.spin_step.specs.declared.schedule.Outcome.{Outcome}
use Rattle.spin_step.specs.declared.schedule.Outcome.TheVariants as outcome
use Rattle.spin_step.specs.Machines.{Machine}
use Rattle.spin_step.specs.Schedules.{State, at_first, after, events_of, with_begins}

abbrev pub value_text : Option ℕ → List ℕ
value_text None = codes "none"
value_text (Some v) = decimal v

abbrev pub truth_text : Bool → List ℕ
truth_text true = codes "true"
truth_text false = codes "false"

-- the digits of the number, if there is one
abbrev pub number_text : Option ℕ → List ℕ
number_text None = []
number_text (Some n) = decimal n

abbrev pub answer_text : Answer ℕ → List ℕ
answer_text answer.Granted = codes "granted"
answer_text answer.Refused = codes "refused"
answer_text answer.Locked = codes "locked"
answer_text answer.Starved = codes "starved"
answer_text answer.Done = codes "done"
answer_text (answer.Is b) = truth_text b
answer_text (answer.Count n) = decimal n
answer_text (answer.Value v) = codes "value " ++ decimal v
answer_text answer.NoValue = codes "none"
answer_text answer.Failed = codes "err"
answer_text answer.Leader = codes "leader"
answer_text answer.Follower = codes "follower"

-- ` from LINE`, where LINE is the line of the transcript at which the call began: the event at place 0 is on line 1. A
-- call that began in an earlier run has no line.
abbrev pub from_text : Option ℕ → List ℕ
from_text None = []
from_text (Some began) = codes " from " ++ decimal (began + 1)

abbrev pub outcome_text : Outcome (Answer ℕ) ℕ → List ℕ
outcome_text outcome.Skipped = codes "passed over"
outcome_text outcome.Begun = codes "begun"
outcome_text outcome.GoingOn = codes "going on"
outcome_text (outcome.Answered a began) = codes "answer " ++ answer_text a ++ from_text began
outcome_text (outcome.Value v) = codes "value " ++ value_text v
outcome_text outcome.Written = codes "written"
outcome_text outcome.Leaked = codes "leaked"

-- the numbers, separated by spaces
abbrev pub numbers_text : List ℕ → List ℕ
numbers_text [] = []
numbers_text (n ∷ []) = decimal n
numbers_text (n ∷ m ∷ more) = decimal n ++ codes " " ++ numbers_text (m ∷ more)

-- the line of an event: its number, the party, the outcome, and the words after the event
abbrev pub event_line : ℕ → ℕ → Outcome (Answer ℕ) ℕ → List ℕ → List ℕ
event_line line party what numbers =
    decimal line ++ codes " " ++ decimal party ++ codes " " ++ outcome_text what ++ codes ": " ++ numbers_text numbers ++ codes "\n"

-- the lines of these events; the first one has the number `line`
abbrev pub event_lines : {W : Type 0} → (W → List ℕ) → ℕ → List (Event W ℕ (Answer ℕ)) → List ℕ
event_lines numbers line [] = []
event_lines numbers line (e ∷ es) = event_line line e.party e.outcome (numbers e.words) ++ event_lines numbers (line + 1) es

abbrev pub end_line : List ℕ → Option ℕ → List ℕ
end_line numbers value = codes "end: " ++ numbers_text numbers ++ codes " value " ++ value_text value ++ codes "\n"

-- a line for each move of a schedule, numbered from 1
abbrev pub schedule_lines : {W C L : Type 0} → Machine W ℕ C L (Answer ℕ) → State W ℕ C L → List (ℕ × Move C ℕ) → List ℕ
schedule_lines m first schedule = event_lines m.numbers 1 (with_begins [] (events_of m first schedule))

-- the lines of the moves, and then the last line with the words and the value
abbrev pub transcript_from : {W C L : Type 0} → Machine W ℕ C L (Answer ℕ) → State W ℕ C L → List (ℕ × Move C ℕ) → List ℕ
transcript_from m first schedule =
    let last = after m first schedule in
    schedule_lines m first schedule ++ end_line (m.numbers last.words) last.value

-- the whole transcript (`transcript_from`) of a new world with this many parties
abbrev pub transcript_text : {W C L : Type 0} → Machine W ℕ C L (Answer ℕ) → ℕ → List (ℕ × Move C ℕ) → List ℕ
transcript_text m parties schedule = transcript_from m (at_first m parties) schedule
