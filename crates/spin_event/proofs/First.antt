-- What holds at first, and so after each schedule.
use Rattle.std.proofs.Common.{◌≡◌, ℕ, zero, suc, ◌+◌, ◌<◌, ◌⊎◌, Option, Some, slice_get, replicate, refl, arith}
use Rattle.spin_step.specs.declared.place.Hold.{Hold}
use Rattle.spin_step.specs.declared.place.Seat.TheVariants.{Idle, Calling}
use Rattle.spin_step.specs.declared.schedule.Move.TheVariants.{Step}
use Rattle.spin_step.specs.Schedules.{moves_at, at_first, resting}
use Rattle.spin_event.specs.declared.calls.EventCall.{EventCall}
use Rattle.spin_event.specs.declared.calls.EventPoint.TheVariants.{Asleep, Uncount, Ring, Wake}
use Rattle.spin_event.specs.EventCalls.{event_machine, woken_by, EventSchedule}
use Rattle.spin_event.specs.Sleeping.{EventState, EventSeat, how_many, is_counted, state_of, NoneIsLost, RingsWake, NobodySleeps, AllAreAwake, WakesUp}
use Rattle.spin_step.proofs.Lists.{get-set_same}
use Rattle.spin_event.proofs.Places.{count_some, get_either}
use Rattle.spin_event.proofs.Kept.{Keeps, keeps_after, written}
use Rattle.spin_event.proofs.Told.{Holds, holds_after, no_sleep}

idle_get : (n p : ℕ) (x : EventSeat) → slice_get (replicate n Idle) p ≡ Some x → x ≡ Idle
idle_get zero p x e = grind arith
idle_get (suc n) zero x e = grind arith
idle_get (suc n) (suc p) x e = grind (arith, idle_get n p x)

idle_count : (n : ℕ) → how_many is_counted (replicate n Idle) ≡ 0
idle_count zero = grind arith
idle_count (suc n) = grind (arith, idle_count n)

keeps_first : (n : ℕ) → Keeps (at_first event_machine n)
keeps_first n = record {
  counted = grind (arith, idle_count n);
  placed = λ p c g t h e. grind (arith, idle_get n p (Calling c (Asleep g t) h) e);
}

holds_first : (n : ℕ) → Holds (at_first event_machine n)
holds_first n = record {
  keeps = keeps_first n;
  only = λ p c l h e. grind (arith, idle_get n p (Calling c l h) e);
  told = λ p c g t h e. grind (arith, idle_get n p (Calling c (Asleep g t) h) e);
}

pub none_is_lost : (n : ℕ) (past : EventSchedule) → NoneIsLost n past
none_is_lost n past one = (holds_after (at_first event_machine n) past one (holds_first n)).told

looks : (s : EventState) (p : ℕ) → Keeps s → s.words.sleepers ≡ 0 → NobodySleeps s
looks s p keeps none q c g t h e = grind (arith, none, keeps.counted, count_some is_counted s.seats q (Calling c (Asleep g t) h) e)

-- a wake leaves all awake, or wakes one more
wakes : (s : EventState) (p : ℕ) (c : EventCall) (h : Option Hold) → slice_get s.seats p ≡ Some (Calling c Wake h) → Keeps s
    → let next = (moves_at event_machine s p Step (Some (Calling c Wake h))).next in AllAreAwake next ⊎ (next.words.woken ≡ s.words.woken + 1)
wakes s p c h at keeps =
    let all : (woken_by c s.words).woken ≡ s.words.parked → AllAreAwake (written (woken_by c s.words) s.value s.seats p (resting h)) = λ e q d i t k there.
    grind (arith, e, keeps.placed q d i t k, get_either s.seats p q (resting h) (Calling d (Asleep i t) k) there, no_sleep h d i t k (t < (woken_by c s.words).woken)) in
    let either : ((woken_by c s.words).woken ≡ s.words.parked) ⊎ ((woken_by c s.words).woken ≡ s.words.woken + 1) = grind arith in
    grind (arith, all, either)

ends : (s : EventState) (p : ℕ) (c : EventCall) (g t : ℕ) (h : Option Hold) → slice_get s.seats p ≡ Some (Calling c (Asleep g t) h) → t < s.words.woken
    → slice_get (moves_at event_machine s p Step (Some (Calling c (Asleep g t) h))).next.seats p ≡ Some (Calling c Uncount h)
ends s p c g t h at awake = grind (arith, awake, get-set_same s.seats p (Calling c Uncount h) (Calling c (Asleep g t) h) at)

adds : (s : EventState) (p : ℕ) (c : EventCall) (h : Option Hold) → (moves_at event_machine s p Step (Some (Calling c Ring h))).next.words.rings ≡ s.words.rings + 1
adds s p c h = refl

pub rings_wake : (n : ℕ) (past : EventSchedule) → RingsWake n past
rings_wake n past p c h = let s = state_of n past in
    let keeps = keeps_after (at_first event_machine n) past (keeps_first n) in
    (λ at none. looks s p keeps none, λ at. rw at (adds s p c h), λ at. rw at (wakes s p c h at keeps))

pub wakes_up : (n : ℕ) (past : EventSchedule) → WakesUp n past
wakes_up n past one none p c g t h at new = let s = state_of n past in
    let awake : t < s.words.woken = grind (arith, none, new, none_is_lost n past one p c g t h at) in
    rw at (ends s p c g t h at awake)
