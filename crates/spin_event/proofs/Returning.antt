-- A wait that was rung is answered within three own steps.
use Rattle.std.proofs.Common.{◌≡◌, ℕ, ◌<◌, false, Some, None, slice_get, refl, ap, arith}
use Rattle.spin_step.specs.declared.place.Seat.TheVariants.{Idle, Calling}
use Rattle.spin_step.specs.declared.schedule.Move.TheVariants.{Step}
use Rattle.spin_step.specs.Schedules.{happens, moves_at}
use Rattle.spin_event.specs.declared.calls.EventCall.{EventCall}
use Rattle.spin_event.specs.declared.calls.EventPoint.TheVariants.{Load, Count, Park, Asleep, Uncount, Ring, Look, Wake}
use Rattle.spin_event.specs.EventCalls.{event_machine, is_heard, EventSchedule}
use Rattle.spin_event.specs.Sleeping.{EventState, EventSeat, state_of, Returns}
use Rattle.spin_step.proofs.Lists.{get-set_same}
use Rattle.spin_event.proofs.First.{none_is_lost}

abbrev next : EventState → ℕ → EventState
next s p = (happens event_machine s p Step).next

-- the state after a step of the party at this seat
made : (s : EventState) (p : ℕ) (seat : EventSeat) → slice_get s.seats p ≡ Some seat → next s p ≡ (moves_at event_machine s p Step (Some seat)).next
made s p seat at = ap (λ o. (moves_at event_machine s p Step o).next) at

idles : (s : EventState) (p : ℕ) → slice_get s.seats p ≡ Some Idle → slice_get (next s p).seats p ≡ Some Idle
idles s p at = rw (made s p Idle at) at

uncounts : (s : EventState) (p : ℕ) (c : EventCall) → slice_get s.seats p ≡ Some (Calling c Uncount None) → slice_get (next s p).seats p ≡ Some Idle
uncounts s p c at = rw (made s p (Calling c Uncount None) at) (get-set_same s.seats p Idle (Calling c Uncount None) at)

parks : (s : EventState) (p : ℕ) (c : EventCall) (g : ℕ) → slice_get s.seats p ≡ Some (Calling c (Park g) None) → is_heard g s.words.rings ≡ false
    → slice_get (next s p).seats p ≡ Some (Calling c Uncount None)
parks s p c g at new = rw (made s p (Calling c (Park g) None) at) (grind (arith, new, get-set_same s.seats p (Calling c Uncount None) (Calling c (Park g) None) at))

counts : (s : EventState) (p : ℕ) (c : EventCall) (g : ℕ) → slice_get s.seats p ≡ Some (Calling c (Count g) None)
    → (slice_get (next s p).seats p ≡ Some (Calling c (Park g) None)) × ((next s p).words.rings ≡ s.words.rings)
counts s p c g at = rw (made s p (Calling c (Count g) None) at) (get-set_same s.seats p (Calling c (Park g) None) (Calling c (Count g) None) at, refl)

wakes : (s : EventState) (p : ℕ) (c : EventCall) (g t : ℕ) → slice_get s.seats p ≡ Some (Calling c (Asleep g t) None) → t < s.words.woken
    → slice_get (next s p).seats p ≡ Some (Calling c Uncount None)
wakes s p c g t at awake = rw (made s p (Calling c (Asleep g t) None) at) (grind (arith, awake, get-set_same s.seats p (Calling c Uncount None) (Calling c (Asleep g t) None) at))

pub returns_soon : (n : ℕ) (past : EventSchedule) → Returns n past
returns_soon n past one none p c (Count k) g at is new = let s = state_of n past in
    let first = counts s p c k at in
    let second = parks (next s p) p c k first.0 (grind (arith, new, is, first.1)) in
    uncounts (next (next s p) p) p c second
returns_soon n past one none p c (Park k) g at is new = let s = state_of n past in
    let first = parks s p c k at (grind (arith, new, is)) in
    idles (next (next s p) p) p (uncounts (next s p) p c first)
returns_soon n past one none p c (Asleep k t) g at is new = let s = state_of n past in
    let awake : t < s.words.woken = grind (arith, none, new, is, none_is_lost n past one p c k t None at) in
    let first = wakes s p c k t at awake in
    idles (next (next s p) p) p (uncounts (next s p) p c first)
returns_soon n past one none p c Load g at is new = absurd is
returns_soon n past one none p c Uncount g at is new = absurd is
returns_soon n past one none p c Ring g at is new = absurd is
returns_soon n past one none p c Look g at is new = absurd is
returns_soon n past one none p c Wake g at is new = absurd is
