-- What the word and the seats of a fair mutex are in the plain lock, and what holds of its cell between any two steps.
use Rattle.std.specs.Prelude.{◌≡◌, ◌⊎◌, ℕ, false, Option, Some, None, List, map, slice_get}
use Rattle.spin_step.specs.Plain.{writing, fair_word}
use Rattle.spin_step.specs.Acts.{Table}
use Rattle.spin_step.specs.Machines.{Machine}
use Rattle.spin_step.specs.Schedules.{Entry, State, happens}
use Rattle.spin_step.specs.declared.answer.Answer.{Answer}
use Rattle.spin_step.specs.declared.answer.Answer.TheVariants as answer
use Rattle.spin_step.specs.declared.place.Hold.{Hold}
use Rattle.spin_step.specs.declared.place.Hold.TheVariants as hold
use Rattle.spin_step.specs.declared.place.Seat.{Seat}
use Rattle.spin_step.specs.declared.place.Seat.TheVariants.{Calling, Holding}
use Rattle.spin_step.specs.declared.schedule.Move.{Move}
use Rattle.spin_step.specs.declared.schedule.Outcome.TheVariants.{Answered}
use Rattle.spin_step_more.specs.FairCalls.{fair_table, fair_machine}
use Rattle.spin_step_more.specs.Starvers.{most_starvers}
use Rattle.spin_step_more.specs.declared.fair.LockRejectReason.{LockRejectReason}
use Rattle.spin_step_more.specs.declared.fair.LockRejectReason.TheVariants.{Locked, Starved}
use Rattle.spin_step_more.specs.declared.fair_calls.FairCall.{FairCall}
use Rattle.spin_step_more.specs.declared.fair_calls.FairCall.TheVariants.{Lock, Starve, StarverTryLockFair, StarverTryLock, StarverLock}
use Rattle.spin_step_more.specs.declared.fair_calls.FairPoint.{FairPoint}
use Rattle.spin_step_more.specs.declared.fair_calls.FairPoint.TheVariants.{Attempt, Look, Load, Register, SetFlag, Await, Unregister}
use Rattle.spin_core.specs.Own.{Numbered}
use Rattle.spin_core.specs.Views.{Part, idle, holds, starves, holds_starving, part_at as at_place}
use Rattle.spin_core.specs.declared.tie.Opening.{Opening}
use Rattle.spin_core.specs.declared.trace.Trace.{Trace}
use Rattle.spin_session.specs.Meaning.{Meaning, RunsTable, part_of}

-- what a party is that has registered in its call, or before it
abbrev pub registered_at : FairPoint → Option Part
registered_at SetFlag = Some starves
registered_at Await = Some starves
registered_at Unregister = Some holds_starving
registered_at _ = None

-- What a party is while its call rests at this point. In `lock` it may rest before it registers, or after.
abbrev pub part_at : FairCall → FairPoint → Option Hold → Option Part
part_at Lock (Attempt n) None = Some idle
part_at Lock (Look n) None = Some idle
part_at Lock Load None = Some idle
part_at Lock (Register n) None = Some idle
part_at Lock l None = registered_at l
part_at Starve Load None = Some idle
part_at Starve (Register n) None = Some idle
part_at StarverTryLockFair Unregister (Some hold.Starver) = Some holds_starving
part_at StarverTryLock SetFlag (Some hold.Starver) = Some starves
part_at StarverTryLock Unregister (Some hold.Starver) = Some holds_starving
part_at StarverLock l (Some hold.Starver) = registered_at l
part_at _ l h = None

abbrev pub held_at : Hold → Part
held_at h = elim h [ hold.Write ↦ holds writing | hold.Starver ↦ starves | _ ↦ idle ]

abbrev pub fair_meaning : Meaning FairCall FairPoint
fair_meaning = record { cap = most_starvers; word = fair_word; second = λ s. 0; bounds = λ n. Unit {0}; shares = false; part = part_at; held = held_at }

-- what a party is to the lock: where it is in a call, or what it holds
abbrev pub View : Type 0
View = Seat FairCall FairPoint

-- `STARVATION_SPINS + 1`: after this many looks that found the flag set, the next such look makes a `lock` register
abbrev pub patience : ℕ
patience = 1025

-- the lock's two words for this word of the model; the second word is empty
abbrev pub words_of : ℕ → ℕ × Unit {0}
words_of w = (w, tt)

-- the answer that gives this reason
abbrev pub reason_answer : {T : Type 0} → LockRejectReason → Answer T
reason_answer Locked = answer.Locked
reason_answer Starved = answer.Starved

-- For a lock of values of type T

abbrev pub Done : Type 0 → Type 0
Done T = Entry FairCall T

module _ {T : Type 0} where
  -- the lock's table for each number with which the word opens; it opens with 0
  abbrev pub fair_tables : ℕ → T → Table ℕ T FairCall FairPoint (Answer T)
  fair_tables start value = fair_table value most_starvers patience

  -- the model of a lock that opens with this value
  abbrev pub model : T → Machine ℕ T FairCall FairPoint (Answer T)
  model value = fair_machine value most_starvers patience

  -- by this move the party is granted the lock
  abbrev pub Enters : T → State ℕ T FairCall FairPoint → ℕ → Move FairCall T → Type 0
  Enters value s p move = let it = happens (model value) s p move in (it.outcome ≡ Answered answer.Granted None) × (slice_get it.next.seats p ≡ Some (Holding hold.Write))

  -- what holds of the first word, the trace and the parties of a lock with this opening
  abbrev pub IsFair : Opening T → ℕ → Trace (Done T) (Unit {0}) → List (Numbered View) → Type 0
  IsFair = RunsTable fair_tables fair_meaning

-- the seats of the parties
abbrev pub views_of : List (Numbered View) → List View
views_of parties = map (λ v. v.0) parties

-- the party is in a call, at the step that ends its registration
abbrev pub EndsRegistration : Option View → Type 0
EndsRegistration seat = (c : FairCall) × (h : Option Hold) × (seat ≡ Some (Calling c Unregister h))

-- the party with this number holds the lock, and is not registered as a starver
abbrev pub HoldsWith : List View → ℕ → Type 0
HoldsWith vs p = at_place (part_of fair_meaning) vs p ≡ holds writing

-- the party with this number is registered as a starver
abbrev pub StarvesAt : List View → ℕ → Type 0
StarvesAt vs p = (at_place (part_of fair_meaning) vs p ≡ starves) ⊎ (at_place (part_of fair_meaning) vs p ≡ holds_starving)
