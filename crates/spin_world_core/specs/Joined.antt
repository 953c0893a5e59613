-- Several runs, one after another, are one run of their joined schedules.
use Rattle.spin_world_core.specs.Runs.{Schedule}
use Rattle.std.specs.Prelude.{◌≡◌, ℕ, ◌-◌, Option, Some, None, List, [], ◌∷◌, ◌++◌, map, take, drop, nat_lt, if◌then◌else◌}
use Rattle.spin_step.specs.declared.schedule.Outcome.{Outcome}
use Rattle.spin_step.specs.declared.schedule.Outcome.TheVariants as outcome
use Rattle.spin_step.specs.declared.schedule.Event.{Event}
use Rattle.spin_step.specs.Machines.{Machine}
use Rattle.spin_step.specs.Schedules.{State, after, events_of, with_begins}
use Rattle.spin_world_core.specs.Runs.{KeepsAll, MomentsAll, CountsAll, AfterAnyPast}
use Rattle.spin_world_core.specs.Values.{ValuesAll}
use Rattle.spin_world_core.specs.Transcripts.{TellsAfterAnyPast}

-- all that is promised of a schedule, from the opening of a world of n parties
pub record Promised {W V C L A : Type 0} (m : Machine W V C L A) (n : ℕ) (entries : Schedule C V) : Type 0 where
  pub keeps : KeepsAll m n entries
  pub moments : MomentsAll m n entries
  pub counts : CountsAll m n entries
  pub values : ValuesAll m n entries

-- Where a call began, as told by a run that starts at place `start` of a longer run. This run tells no place of a call
-- that began before `start`.
abbrev pub began_from : ℕ → Option ℕ → Option ℕ
began_from start None = None
began_from start (Some place) = if nat_lt place start then None else Some (place - start)

abbrev pub outcome_from : {V A : Type 0} → ℕ → Outcome A V → Outcome A V
outcome_from start o = elim o [ outcome.Answered a b ↦ outcome.Answered a (began_from start b) | other ↦ other ]

abbrev pub event_from : {W V A : Type 0} → ℕ → Event W V A → Event W V A
event_from start e = record e { outcome = outcome_from start e.outcome }

-- The events `one` of a run are cut in two at this place. In the second part, the place where a call began is counted
-- from the start of this part.
pub record IsCut {W V A : Type 0} (place : ℕ) (one first second : List (Event W V A)) : Type 0 where
  pub front : first ≡ take place one
  pub back : second ≡ map (event_from place) (drop place one)

-- any number of runs

abbrev pub joined : {X : Type 0} → List (List X) → List X
joined [] = []
joined (xs ∷ xss) = xs ++ joined xss

abbrev pub after_runs : {W V C L A : Type 0} → Machine W V C L A → State W V C L → List (Schedule C V) → State W V C L
after_runs m s [] = s
after_runs m s (run ∷ runs) = after_runs m (after m s run) runs

-- the transcript of each run
abbrev pub transcripts_of : {W V C L A : Type 0} → Machine W V C L A → State W V C L → List (Schedule C V) → List (List (Event W V A))
transcripts_of m s [] = []
transcripts_of m s (run ∷ runs) = with_begins [] (events_of m s run) ∷ transcripts_of m (after m s run) runs

-- The runs end in the state of one run of their joined schedule. The events of all runs together tell the scenes of the
-- joined schedule. All that is promised of a schedule holds of the joined one.
pub record RunsAreOne {W V C L A : Type 0} (m : Machine W V C L A) (s : State W V C L) (runs : List (Schedule C V)) : Type 0 where
  pub state : after_runs m s runs ≡ after m s (joined runs)
  pub tells : TellsAfterAnyPast m s (joined runs) (joined (transcripts_of m s runs))
  pub promised : AfterAnyPast m s (joined runs) (Promised m)
