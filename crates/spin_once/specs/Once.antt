-- The rule of a value that is made once, from a seed. The word of the cell says how its parties use the content. The trace is a schedule of
-- the model. The schedule leads to this word and to the seats of these parties.
use Rattle.std.specs.Prelude.{is_some, ◌≡◌, ◌<◌, ◌≤◌, ◌⊎◌, ℕ, zero, suc, Bool, true, false, Option, Some, None, List, [], ◌∷◌, ◌++◌, length, replicate}
use Rattle.core.specs.declared.snapshot.Snapshot.{Snapshot}
use Rattle.spin_core.specs.Cell.{Use, off, reads, writes, fixes, knows, Ways, readers_of, writers_of}
use Rattle.spin_core.specs.Own.{Numbered, what, RunsByRule, Tells}
use Rattle.spin_core.specs.Passes as passes
use Rattle.spin_core.specs.Passes.{Course, Ending, Begins, says_step}
use Rattle.spin_core.specs.declared.cell.stable.MaybeStable.{MaybeStable}
use Rattle.spin_core.specs.declared.tie.Opening.{Opening}
use Rattle.spin_core.specs.declared.trace.Trace.{Trace}
use Rattle.spin_session.specs.Turns.{outcome_of, has_begun}
use Rattle.spin_step.specs.declared.answer.Answer.{Answer}
use Rattle.spin_step.specs.declared.answer.Answer.TheVariants.{Value, NoValue, Is, Failed}
use Rattle.spin_step.specs.declared.once_calls.OnceCall.{OnceCall}
use Rattle.spin_step.specs.declared.once_calls.OnceCall.TheVariants.{TryCallOnceOk}
use Rattle.spin_step.specs.declared.once_calls.OncePoint.{OncePoint}
use Rattle.spin_step.specs.declared.once_calls.OncePoint.TheVariants.{Look, Run}
use Rattle.spin_step.specs.declared.place.Hold.TheVariants.{Read}
use Rattle.spin_step.specs.declared.place.Seat.{Seat}
use Rattle.spin_step.specs.declared.place.Seat.TheVariants.{Idle, Calling, Holding}
use Rattle.spin_step.specs.declared.schedule.Move.{Move}
use Rattle.spin_step.specs.declared.schedule.Move.TheVariants.{Step, Weak}
use Rattle.spin_step.specs.declared.schedule.Outcome.TheVariants.{GoingOn, Answered}
use Rattle.spin_step.specs.declared.stepped.Next.{Next}
use Rattle.spin_step.specs.declared.stepped.Next.TheVariants.{Continue, Answers}
use Rattle.spin_step.specs.OnceCalls.{OnceMachine, once_machine, brings_of}
use Rattle.spin_once.specs.Model.{Point, at, model}
use Rattle.spin_once.specs.OnceValues.{Valued, bare, bare_trace, given_of, made, values, AtMostOne, IsMade}
use Rattle.spin_once.specs.declared.once_core.rule.Key.{Key}
use Rattle.spin_once.specs.declared.once_core.rule.Stage.{Stage}
use Rattle.spin_once.specs.declared.once_core.rule.Stage.TheVariants.{Seed, Done}

abbrev pub Call : Type 0
Call = OnceCall (Unit {0})

-- the seat of a party; one that holds something reads the value for ever
abbrev pub View : Type 0
View = Seat Call OncePoint

abbrev pub in_call : Call → OncePoint → View
in_call c l = Calling c l None

abbrev pub reader : View
reader = Holding Read

abbrev pub use_of_view : View → Use
use_of_view (Calling c Run h) = writes
use_of_view (Holding h) = reads
use_of_view _ = off

-- how a party uses the content of the cell
abbrev pub use_of_party : Numbered View → Use
use_of_party v = use_of_view v.0

-- how many parties read the value
abbrev pub readers : List View → ℕ
readers = readers_of use_of_view

-- how many parties run a closure
abbrev pub running : List View → ℕ
running = writers_of use_of_view

-- What the word says if r parties read the value and w parties run a closure. With 0 no party does either. With 1 one party runs its
-- closure, and none reads. With 2 some party reads, and none runs a closure.
abbrev pub IsPhase : ℕ → ℕ → ℕ → Type 0
IsPhase zero r w = (r ≡ 0) × (w ≡ 0)
IsPhase (suc zero) r w = (r ≡ 0) × (w ≡ 1)
IsPhase (suc (suc zero)) r w = (0 < r) × (w ≡ 0)
IsPhase _ r w = ⊥

abbrev pub Word : ℕ → Unit {0} → List View → Type 0
Word n m vs = IsPhase n (readers vs) (running vs)

-- whether this content is a value that was made
abbrev pub is_done : {T S : Type 0} → Stage T S → Bool
is_done (Done value) = true
is_done _ = false

abbrev pub OneMove : Type 0
OneMove = Move Call (Unit {0})

module _ {T S : Type 0} (makes : S → T → Type 0) where
  -- What is known of the content of the cell. With `true` some party reads it: it is a value that may be made from the seed. With `false`
  -- nobody uses it: it is the seed itself.
  abbrev pub IsMadeFrom : Snapshot S → Bool → Stage T S → Type 0
  IsMadeFrom seed true (Done value) = makes seed.value value
  IsMadeFrom seed false (Seed it) = it ≡ seed.value
  IsMadeFrom _ _ _ = ⊥

  -- how parties may use the content, and what the trace says of it: a value in the cell is the one that was made
  abbrev pub once_ways : Key T S → Ways (MaybeStable (Stage T S)) (Numbered View) (Trace (Valued T) (Unit {0}))
  once_ways key = (fixes (λ read x. IsMadeFrom key.seed read x.value), use_of_party, knows (λ t x. IsMade key.opening.told (made key.opening.value t.entries) x.value))

-- where a party sits in the model; a party that reads has its answer, so it is idle there
abbrev pub seat_of : View → Seat Call Point
seat_of (Calling c l h) = Calling c (at l) h
seat_of _ = Idle

-- the cell's two words for this word of the model; the second word is empty
abbrev pub words_of : ℕ → ℕ × Unit {0}
words_of w = (w, tt)

abbrev pub Says : Type 1
Says = passes.Says (Unit {0}) Call (Answer (Unit {0})) View

-- the party runs a closure, which may give a value
abbrev pub runs_closure : Option View → Bool
runs_closure (Some (Calling c Run None)) = is_some (brings_of c)
runs_closure _ = false

module _ {T S : Type 0} where
  -- what holds of the first word, the trace and the parties of a cell with this opening
  unfoldable pub IsOnce : Opening (Stage T S) → ℕ → Trace (Valued T) (Unit {0}) → List (Numbered View) → Type 0
  IsOnce opening n t vs = RunsByRule (model (given_of opening.value)) seat_of words_of Word opening.name n (bare_trace t) vs × AtMostOne n (made opening.value t.entries)

  -- What a step tells of its moves. It also tells that the history still has at most one value, and that only a party that runs its closure
  -- writes one.
  unfoldable pub Told : Opening (Stage T S) → Says → Option (Numbered View) → List (Valued T) → List (Valued T) → ℕ → Numbered View → Type 0
  Told opening says view log es n v = Tells (model (given_of opening.value)) seat_of words_of says view (bare log) (bare es) n v × (length (made opening.value (log ++ es)) ≤ 1) × (runs_closure (what view) ≡ false → values es ≡ [])

-- The steps of a call. The model's table says which step comes next.

abbrev pub Onward : Type 0
Onward = Next OncePoint (Answer (Unit {0}))

-- how a call continues from this point, by the word that its step finds
abbrev pub next_at : Call → OncePoint → ℕ → Onward
next_at c l n = (let m : OnceMachine (Unit {0}) = once_machine None in m.step n (Some tt) c l None).next

-- the view after this answer: a party that gets the value, or learns that there is one, reads the value for ever
abbrev pub answered : Answer (Unit {0}) → View
answered (Value v) = reader
answered (Is true) = reader
answered _ = Idle

abbrev pub view_of : Call → Onward → View
view_of c (Continue l) = in_call c l
view_of c (Answers a h) = answered a

-- what the step of the call at this point tells; it is the call's first if `goes_on` is false
abbrev pub turn : Bool → Call → OncePoint → Says
turn goes_on c l = says_step goes_on c (λ n. outcome_of (next_at c l n)) (λ n. view_of c (next_at c l n))

-- the party is at this point of the call, or is in no call, and may begin this one here
abbrev pub IsAt : Call → OncePoint → Option View → Type 0
IsAt c l view = (view ≡ Some (in_call c l)) ⊎ ((l ≡ Look) × (has_begun view ≡ false))

-- the closure of this call may give a value
abbrev pub HasClosure : Call → Type 0
HasClosure c = is_some (brings_of c) ≡ true

-- at this point the closure of the call runs
abbrev pub is_run : OncePoint → Bool
is_run l = elim l [ Run ↦ true | _ ↦ false ]

-- the call is answered, or its closure may run
abbrev pub stops : Onward → Bool
stops next = elim next [ Continue l ↦ is_run l | Answers a h ↦ true ]

-- the table has this step, at some point of the call, for some number found
abbrev pub IsStepOf : Call → Onward → Type 0
IsStepOf c next = (l : OncePoint) × (n : ℕ) × (next ≡ next_at c l n)

-- the call is answered with the value, or because there is none
abbrev pub IsTold : Onward → Type 0
IsTold next = (next ≡ Answers (Value tt) None) ⊎ (next ≡ Answers NoValue None)

-- The calls of a party

abbrev pub Moving : Type 1
Moving = Course (Unit {0}) Call (Answer (Unit {0}))

-- the course of the failure of a closure that runs
abbrev pub IsFailure : Moving
IsFailure own outs = (own ≡ Weak ∷ Step ∷ []) × (outs ≡ GoingOn ∷ Answered Failed None ∷ [])

abbrev pub fails_by : Says
fails_by own outs n v = (v ≡ Idle) × IsFailure own outs

-- the course of a call under way whose closure fails: steps after which the call goes on, and then the failure
abbrev pub Fails : Moving
Fails own outs = (n : ℕ) × (own ≡ replicate n Step ++ Weak ∷ Step ∷ []) × (outs ≡ replicate n GoingOn ++ GoingOn ∷ Answered Failed None ∷ [])

-- The course of a whole call whose closure fails. Until the failure the model names the call as one whose closure does not fail.
abbrev pub IsFailedCall : Moving
IsFailedCall = Begins (TryCallOnceOk tt) Fails
