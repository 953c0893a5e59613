-- Progress of a `Once`: in how many rounds a call with a closure is answered.
use Rattle.std.specs.Prelude.{◌≡◌, ℕ, ◌==◌, ◌||◌, Bool, true, false, Option, List}
use Rattle.spin_step.specs.Calls.{Said, failed}
use Rattle.spin_step.specs.Machines.{Machine}
use Rattle.spin_step.specs.Schedules.{Entry}
use Rattle.spin_step.specs.declared.place.Hold.{Hold}
use Rattle.spin_step.specs.declared.once_calls.OnceCall.{OnceCall}
use Rattle.spin_step.specs.OnceCalls.{OnceMachine}
use Rattle.spin_world_core.specs.Runs.{Seen, state_at}
use Rattle.spin_world.specs.OnceClosures.{OnceSchedule, RunsClosure, has_closure}
use Rattle.spin_laws.specs.Rounds.{Test, InRounds, AtLast}
use Rattle.spin_step.specs.declared.schedule.Outcome.TheVariants as outcome

abbrev pub says_failure : Said → Bool
says_failure said = elim said [ failed ↦ true | _ ↦ false ]

-- the party's call is answered, or some closure fails
abbrev pub answers_or_fails : {W V C L A : Type 0} → Machine W V C L A → ℕ → Test V C L A
answers_or_fails m p q move o x = elim o [ outcome.Answered a b ↦ (q == p) || says_failure (m.says a) | _ ↦ false ]

-- the call has a closure
abbrev pub BringsClosure : {W V C L A : Type 0} → Machine W V C L A → Seen W V C L → ℕ → C → Option Hold → Type 0
BringsClosure m seen p c h = has_closure (m.asks c h) ≡ true

-- In any four rounds, a call with a closure is answered, or some closure fails
abbrev pub AnswersInFour : {V : Type 0} → OnceMachine V → ℕ → OnceSchedule V → List (OnceSchedule V) → Type 0
AnswersInFour m = InRounds m (BringsClosure m) 4 (answers_or_fails m)

-- While the word says that a closure runs, some party runs it
abbrev pub SomebodyRuns : {V : Type 0} → OnceMachine V → ℕ → OnceSchedule V → Type 0
SomebodyRuns m n past = (state_at m n past).words ≡ 1 → (p : ℕ) × RunsClosure m n past p

-- the party's call is answered
abbrev pub answers : {V C L A : Type 0} → ℕ → Test V C L A
answers p q move o x = elim o [ outcome.Answered a b ↦ q == p | _ ↦ false ]

-- If there is a value, each call is answered in one round
abbrev pub AnswersInOne : {V : Type 0} → OnceMachine V → ℕ → OnceSchedule V → List (OnceSchedule V) → Type 0
AnswersInOne m n past = InRounds m (λ seen p c h. (state_at m n past).words ≡ 2) 1 answers n past

-- Starvation freedom of a call with a closure: in an endless fair schedule the call is answered, or some closure fails
abbrev pub AnswersAtLast : {V : Type 0} → OnceMachine V → ℕ → OnceSchedule V → (ℕ → Entry (OnceCall V) V) → Type 0
AnswersAtLast m = AtLast m (BringsClosure m) (answers_or_fails m)
