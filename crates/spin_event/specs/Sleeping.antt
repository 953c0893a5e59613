-- What it means that no wake-up is lost.
use Rattle.std.specs.Prelude.{◌≡◌, ℕ, ◌+◌, ◌≤◌, ◌<◌, ◌⊎◌, Bool, true, false, Option, Some, None, List, [], ◌∷◌, slice_get}
use Rattle.std.specs.List.{list_any}
use Rattle.spin_step.specs.declared.place.Hold.{Hold}
use Rattle.spin_step.specs.declared.place.Seat.{Seat}
use Rattle.spin_step.specs.declared.place.Seat.TheVariants.{Idle, Calling}
use Rattle.spin_step.specs.declared.schedule.Move.{Move}
use Rattle.spin_step.specs.declared.schedule.Move.TheVariants.{Begin, Step}
use Rattle.spin_step.specs.Schedules.{State, after, at_first, happens}
use Rattle.spin_step.specs.Steps.{bit}
use Rattle.spin_event.specs.declared.calls.EventWords.{EventWords}
use Rattle.spin_event.specs.declared.calls.EventCall.{EventCall}
use Rattle.spin_event.specs.declared.calls.EventCall.TheVariants.{NotifyAll, NotifyOne}
use Rattle.spin_event.specs.declared.calls.EventPoint.{EventPoint}
use Rattle.spin_event.specs.declared.calls.EventPoint.TheVariants.{Count, Park, Asleep, Uncount, Ring, Look, Wake}
use Rattle.spin_event.specs.EventCalls.{event_machine, is_heard, EventMachine, EventSchedule}

abbrev pub EventState : Type 0
EventState = State EventWords (Unit {0}) EventCall EventPoint

abbrev pub EventSeat : Type 0
EventSeat = Seat EventCall EventPoint

-- the party has counted itself as a sleeper, and not yet taken this back
abbrev pub is_counted_at : EventPoint → Bool
is_counted_at l = elim l [ Park g ↦ true | Asleep g t ↦ true | Uncount ↦ true | _ ↦ false ]

abbrev pub is_counted : EventSeat → Bool
is_counted seat = elim seat [ Calling c l h ↦ is_counted_at l | _ ↦ false ]

abbrev pub is_for_all : EventCall → Bool
is_for_all c = elim c [ NotifyAll ↦ true | _ ↦ false ]

-- the party has rung, and is about to wake all unless it finds nobody counted
abbrev pub wakes_all_at : EventCall → EventPoint → Bool
wakes_all_at c l = elim l [ Look ↦ is_for_all c | Wake ↦ is_for_all c | _ ↦ false ]

abbrev pub wakes_all : EventSeat → Bool
wakes_all seat = elim seat [ Calling c l h ↦ wakes_all_at c l | _ ↦ false ]

-- how many pass the test
abbrev pub how_many : (EventSeat → Bool) → List EventSeat → ℕ
how_many test [] = 0
how_many test (x ∷ xs) = bit (test x) + how_many test xs

-- the schedule begins a `NotifyOne`
abbrev pub is_for_one : ℕ × Move EventCall (Unit {0}) → Bool
is_for_one e = elim e.1 [ Begin NotifyOne ↦ true | _ ↦ false ]

abbrev pub state_on : EventMachine → ℕ → EventSchedule → EventState
state_on m n past = after m (at_first m n) past

abbrev pub state_of : ℕ → EventSchedule → EventState
state_of = state_on event_machine

-- A party sleeps, which heard g rings, at the place t. Then it is awake, or it has heard all rings (modulo 2^32), or a
-- `NotifyAll` is between its ring and its wake. This is so if no `NotifyOne` has begun.
abbrev pub NoneIsLostOn : EventMachine → ℕ → EventSchedule → Type 0
NoneIsLostOn m n past = let s = state_on m n past in list_any is_for_one past ≡ false
    → (p : ℕ) (c : EventCall) (g t : ℕ) (h : Option Hold) → slice_get s.seats p ≡ Some (Calling c (Asleep g t) h)
    → (t < s.words.woken) ⊎ (is_heard g s.words.rings ≡ true) ⊎ (1 ≤ how_many wakes_all s.seats)

abbrev pub NoneIsLost : ℕ → EventSchedule → Type 0
NoneIsLost = NoneIsLostOn event_machine

-- nobody is asleep
abbrev pub NobodySleeps : EventState → Type 0
NobodySleeps s = (p : ℕ) (c : EventCall) (g t : ℕ) (h : Option Hold) → slice_get s.seats p ≡ Some (Calling c (Asleep g t) h) → ⊥

-- everybody who sleeps is awake
abbrev pub AllAreAwake : EventState → Type 0
AllAreAwake s = (p : ℕ) (c : EventCall) (g t : ℕ) (h : Option Hold) → slice_get s.seats p ≡ Some (Calling c (Asleep g t) h) → t < s.words.woken

-- A notification begins by a ring, which adds 1 to the rings. If it then finds nobody counted, nobody sleeps. A wake
-- leaves all awake, or it is a wake for one, which has woken one more.
abbrev pub RingsWake : ℕ → EventSchedule → Type 0
RingsWake n past = let s = state_of n past in (p : ℕ) (c : EventCall) (h : Option Hold)
    → let next = (happens event_machine s p Step).next in
    (slice_get s.seats p ≡ Some (Calling c Look h) → s.words.sleepers ≡ 0 → NobodySleeps s)
    × (slice_get s.seats p ≡ Some (Calling c Ring h) → next.words.rings ≡ s.words.rings + 1)
    × (slice_get s.seats p ≡ Some (Calling c Wake h) → AllAreAwake next ⊎ (next.words.woken ≡ s.words.woken + 1))

-- No `NotifyOne` has begun, and no `NotifyAll` is between its ring and its wake. Then a party that sleeps, and has not
-- heard all rings, ends its sleep by its next step.
abbrev pub WakesUp : ℕ → EventSchedule → Type 0
WakesUp n past = let s = state_of n past in list_any is_for_one past ≡ false → how_many wakes_all s.seats ≡ 0
    → (p : ℕ) (c : EventCall) (g t : ℕ) (h : Option Hold) → slice_get s.seats p ≡ Some (Calling c (Asleep g t) h) → is_heard g s.words.rings ≡ false
    → slice_get (happens event_machine s p Step).next.seats p ≡ Some (Calling c Uncount h)

-- the party has listened, and waits: it is about to count itself, to sleep, or it sleeps
abbrev pub is_waiting : ℕ → EventPoint → Type 0
is_waiting g (Count k) = k ≡ g
is_waiting g (Park k) = k ≡ g
is_waiting g (Asleep k t) = k ≡ g
is_waiting g l = ⊥

-- Under the same conditions a wait that has not heard all rings is answered within three steps of its own, if no other
-- party steps in between.
abbrev pub Returns : ℕ → EventSchedule → Type 0
Returns n past = let s = state_of n past in list_any is_for_one past ≡ false → how_many wakes_all s.seats ≡ 0
    → (p : ℕ) (c : EventCall) (l : EventPoint) (g : ℕ) → slice_get s.seats p ≡ Some (Calling c l None) → is_waiting g l → is_heard g s.words.rings ≡ false
    → slice_get (after event_machine s ((p, Step) ∷ (p, Step) ∷ (p, Step) ∷ [])).seats p ≡ Some Idle
