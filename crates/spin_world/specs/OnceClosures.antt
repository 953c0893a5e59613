-- What users of a `Once` may rely on.
use Rattle.spin_world_core.specs.Runs.{Schedule}
use Rattle.spin_world_core.specs.Runs.{state_at}
use Rattle.spin_world_core.specs.Users.{IsCalling}
use Rattle.spin_world_core.specs.Users.{seen_at}
use Rattle.std.specs.Prelude.{◌≡◌, ℕ, ◌⊎◌, Bool, true, false, Option, Some, None, is_some, List, [], ◌∷◌, ◌++◌, ◌==◌, if◌then◌else◌, slice_get, not, ◌||◌}
use Rattle.spin_step.specs.Plain.{to_begin, gets, is_complete, Change, is_empty}
use Rattle.spin_step.specs.declared.answer.Answer.{Answer}
use Rattle.spin_step.specs.declared.answer.Answer.TheVariants.{Value, NoValue, Failed}
use Rattle.spin_step.specs.declared.place.Hold.{Hold}
use Rattle.spin_step.specs.declared.place.Seat.TheVariants.{Calling}
use Rattle.spin_step.specs.declared.schedule.Move.{Move}
use Rattle.spin_step.specs.declared.schedule.Move.TheVariants.{Step, OwnerSet}
use Rattle.spin_step.specs.declared.schedule.Outcome.TheVariants.{Answered}
use Rattle.spin_step.specs.declared.once_calls.OnceCall.{OnceCall}
use Rattle.spin_step.specs.declared.once_calls.OnceCall.TheVariants.{Get}
use Rattle.spin_step.specs.declared.once_calls.OncePoint.{OncePoint}
use Rattle.spin_step.specs.Calls.{Asked, Mark, failed, gives_value, is_for, own_steps}
use Rattle.spin_step.specs.StepKinds.{is_look}
use Rattle.spin_step.specs.Schedules.{State}
use Rattle.spin_world_core.specs.Runs.{scene, own}
use Rattle.spin_world_core.specs.Users.{outcome_after}
use Rattle.spin_step.specs.OnceCalls.{OnceMachine}
use Rattle.spin_step.specs.declared.once_calls.OnceCall.TheVariants.{Poll}
use Rattle.std.specs.List.{list_all, list_any}

abbrev pub OnceSchedule : Type 0 → Type 0
OnceSchedule V = Schedule (OnceCall V) V

-- by this move the owner does not replace the value
abbrev pub keeps_value : {C V : Type 0} → Move C V → Bool
keeps_value move = elim move [ OwnerSet v ↦ false | _ ↦ true ]

-- by no move of these entries does the owner replace the value
abbrev pub is_shared : {C V : Type 0} → Schedule C V → Bool
is_shared es = list_all (λ e. keeps_value e.1) es

-- There is a value exactly if the phase is complete. The value stays the same until the owner replaces it.
pub record ValueStays {V : Type 0} (m : OnceMachine V) (n : ℕ) (past further : OnceSchedule V) : Type 0 where
  pub complete : is_complete (seen_at m n past).plain.phase ≡ is_some (state_at m n past).value
  pub stays : (v : V) → (state_at m n past).value ≡ Some v → is_shared further ≡ true → (state_at m n (past ++ further)).value ≡ Some v

-- the party runs its closure: its call has begun the closure, and has made no other plain step
pub record RunsClosure {V : Type 0} (m : OnceMachine V) (n : ℕ) (past : OnceSchedule V) (p : ℕ) : Type 0 where
  pub call : OnceCall V
  pub point : OncePoint
  pub held : Option Hold
  pub calls : IsCalling m n past p call point held
  pub begun : own p ((seen_at m n past).span p) ≡ gets p to_begin ∷ []

-- the answer of a call whose closure ends; the closure made this value, or failed
abbrev pub answer_of : {V : Type 0} → Option V → Answer V
answer_of made = elim made [ Some v ↦ Value v | None ↦ Failed ]

-- At most one party runs a closure, and none does once there is a value. The next step of a party that runs its closure ends the closure.
pub record OneRuns {V : Type 0} (m : OnceMachine V) (n : ℕ) (past : OnceSchedule V) : Type 0 where
  pub alone : (p q : ℕ) → RunsClosure m n past p → RunsClosure m n past q → p ≡ q
  pub before : (p : ℕ) → RunsClosure m n past p → (state_at m n past).value ≡ None
  pub ends : (p : ℕ) → (runs : RunsClosure m n past p) → outcome_after m n past p Step ≡ Answered (answer_of (m.brings runs.call)) None

-- the call may answer with the value
abbrev pub wants_value : Asked → Bool
wants_value what = not (is_empty (own_steps (what.answers gives_value) 0))

abbrev pub begins_closure : List Change → Bool
begins_closure changes = elim changes [ [] ↦ false | c ∷ cs ↦ is_for to_begin c ]

-- the call may run a closure
abbrev pub has_closure : Asked → Bool
has_closure what = list_any begins_closure (own_steps (what.answers gives_value) 0) || list_any begins_closure (own_steps (what.answers failed) 0)

-- If there is a value, the next step of each call that wants the value answers with it. If the word is 0 (there is no
-- value, and no closure runs), the next step of a `poll` answers `NoValue`.
pub record AnswersAtOnce {V : Type 0} (m : OnceMachine V) (n : ℕ) (past : OnceSchedule V) : Type 0 where
  pub value : (p : ℕ) (v : V) (c : OnceCall V) (l : OncePoint) (h : Option Hold) → (state_at m n past).value ≡ Some v
      → IsCalling m n past p c l h → wants_value (m.asks c h) ≡ true
      → outcome_after m n past p Step ≡ Answered (Value v) None
  pub none : (p : ℕ) (l : OncePoint) (h : Option Hold) → (state_at m n past).words ≡ 0 → IsCalling m n past p Poll l h
      → outcome_after m n past p Step ≡ Answered NoValue None

-- after a call has answered with a value, the next step of each `get` answers with it, unless the owner replaced it
abbrev pub GetAgrees : {V : Type 0} → OnceMachine V → ℕ → OnceSchedule V → OnceSchedule V → Type 0
GetAgrees {V} m n past further =
    (p q : ℕ) (v : V) (l : OncePoint) (h : Option Hold) → outcome_after m n past p Step ≡ Answered (Value v) None → is_shared further ≡ true
    → slice_get (state_at m n (past ++ (p, Step) ∷ further)).seats q ≡ Some (Calling Get l h)
    → outcome_after m n (past ++ (p, Step) ∷ further) q Step ≡ Answered (Value v) None

-- After a closure fails, the word is 0. When the word is 0, a call with a closure runs the closure after its next step
-- or the one after that, if nobody else steps in between.
pub record MayRunAgain {V : Type 0} (m : OnceMachine V) (n : ℕ) (past : OnceSchedule V) : Type 0 where
  pub clears : (p : ℕ) → outcome_after m n past p Step ≡ Answered Failed None → (state_at m n (past ++ (p, Step) ∷ [])).words ≡ 0
  pub begins : (p : ℕ) (c : OnceCall V) (l : OncePoint) (h : Option Hold) → (state_at m n past).words ≡ 0
      → IsCalling m n past p c l h → has_closure (m.asks c h) ≡ true
      → RunsClosure m n (past ++ (p, Step) ∷ []) p ⊎ RunsClosure m n (past ++ (p, Step) ∷ (p, Step) ∷ []) p

-- the party's call has made a step, and its latest step was a look
abbrev pub has_just_looked : ℕ → List Mark → Bool
has_just_looked p [] = false
has_just_looked p (m ∷ ms) = if m.party == p then is_look m.step_kind else has_just_looked p ms

-- a step of a call begins the call's closure only if the call's step before it was a look
abbrev pub LooksFirst : {V : Type 0} → OnceMachine V → ℕ → OnceSchedule V → Type 0
LooksFirst m n past = (p : ℕ) → (scene m (seen_at m n past) p Step).change ≡ Some (gets p to_begin) → has_just_looked p ((seen_at m n past).span p) ≡ true

-- Unless the word says that there is a value, no step depends on the value, since a closure may be writing it.
abbrev pub LooksWhereComplete : {V : Type 0} → OnceMachine V → Type 0
LooksWhereComplete {V} m = (w : ℕ) (u v : Option V) (c : OnceCall V) (l : OncePoint) (h : Option Hold) → (w ≡ 2 → ⊥) → m.step w u c l h ≡ m.step w v c l h
