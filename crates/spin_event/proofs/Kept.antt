-- What every move keeps: the word of sleepers counts who is between its two steps, and each sleeper has a place.
use Rattle.std.proofs.Common.{◌≡◌, ℕ, ◌+◌, ◌-◌, ◌≤◌, ◌<◌, false, Option, Some, None, List, [], ◌∷◌, slice_get, slice_set, refl, arith}
use Rattle.spin_step.specs.Steps.{bit}
use Rattle.spin_step.specs.declared.place.Hold.{Hold}
use Rattle.spin_step.specs.declared.place.Seat.TheVariants.{Idle, Calling, Holding, Leaked, Gone}
use Rattle.spin_step.specs.declared.schedule.Move.{Move}
use Rattle.spin_step.specs.declared.schedule.Move.TheVariants.{Begin, Step, Weak, Read, Write, Leak, OwnerGet, OwnerSet}
use Rattle.spin_step.specs.Schedules.{moves_at, moves, resting, happens, after}
use Rattle.spin_event.specs.declared.calls.EventWords.{EventWords}
use Rattle.spin_event.specs.declared.calls.EventCall.{EventCall}
use Rattle.spin_event.specs.declared.calls.EventPoint.{EventPoint}
use Rattle.spin_event.specs.declared.calls.EventPoint.TheVariants.{Load, Count, Park, Asleep, Uncount, Ring, Look, Wake}
use Rattle.spin_event.specs.EventCalls.{event_machine, EventSchedule, starts_at, woken_by}
use Rattle.spin_event.specs.Sleeping.{EventState, EventSeat, how_many, is_counted}
use Rattle.spin_event.proofs.Places.{get_either, count_set, count_some}

-- each sleeper has a place in the kernel's list
abbrev pub Placed : EventState → Type 0
Placed s = (p : ℕ) (c : EventCall) (g t : ℕ) (h : Option Hold) → slice_get s.seats p ≡ Some (Calling c (Asleep g t) h) → t < s.words.parked

pub record Keeps (s : EventState) : Type 0 where
  pub counted : s.words.sleepers ≡ how_many is_counted s.seats
  pub placed : Placed s

abbrev pub written : EventWords → Option (Unit {0}) → List EventSeat → ℕ → EventSeat → EventState
written w v seats p x = record { words = w; value = v; seats = slice_set seats p x }

-- a seat that is written keeps both, if the words fit it
keeps_write : (s : EventState) (w : EventWords) (v : Option (Unit {0})) (p : ℕ) (x y : EventSeat) → slice_get s.seats p ≡ Some y → Keeps s
    → w.sleepers + bit (is_counted y) ≡ s.words.sleepers + bit (is_counted x) → s.words.parked ≤ w.parked
    → ((c : EventCall) (g t : ℕ) (h : Option Hold) → x ≡ Calling c (Asleep g t) h → t < w.parked)
    → Keeps (written w v s.seats p x)
keeps_write s w v p x y at keeps counts grows own = record {
  counted = omega (arith, keeps.counted, count_set is_counted s.seats p x y at, counts);
  placed = λ q d i t k there. grind (arith, keeps.placed q d i t k, get_either s.seats p q x (Calling d (Asleep i t) k) there, own d i t k);
}

rest_is : (h : Option Hold) → is_counted (resting h) ≡ false
rest_is h = grind arith

no_sleep : (h : Option Hold) (c : EventCall) (g t : ℕ) (k : Option Hold) (n : ℕ) → resting h ≡ Calling c (Asleep g t) k → t < n
no_sleep h c g t k n e = grind arith

keeps_step : (s : EventState) (p : ℕ) (c : EventCall) (l : EventPoint) (h : Option Hold) → slice_get s.seats p ≡ Some (Calling c l h) → Keeps s
    → Keeps (moves event_machine s p Step (Calling c l h)).next
keeps_step s p c Load h at keeps = keeps_write s s.words s.value p (resting h) (Calling c Load h) at keeps (grind (arith, rest_is h)) (grind arith) (λ d i t k e. no_sleep h d i t k s.words.parked e)
keeps_step s p c (Count g) h at keeps = keeps_write s (record s.words { sleepers = s.words.sleepers + 1 }) s.value p (Calling c (Park g) h) (Calling c (Count g) h) at keeps (grind arith) (grind arith) (λ d i t k e. grind (arith, e))
keeps_step s p c (Park g) h at keeps =
    let slept = keeps_write s (record s.words { parked = s.words.parked + 1 }) s.value p (Calling c (Asleep g s.words.parked) h) (Calling c (Park g) h) at keeps (grind arith) (grind arith) (λ d i t k e. grind (arith, e)) in
    let left = keeps_write s s.words s.value p (Calling c Uncount h) (Calling c (Park g) h) at keeps (grind arith) (grind arith) (λ d i t k e. grind (arith, e)) in
    grind (arith, slept, left)
keeps_step s p c (Asleep g t) h at keeps =
    let slept = keeps_write s s.words s.value p (Calling c (Asleep g t) h) (Calling c (Asleep g t) h) at keeps (grind arith) (grind arith) (λ d i u k e. grind (arith, e, keeps.placed p c g t h at)) in
    let left = keeps_write s s.words s.value p (Calling c Uncount h) (Calling c (Asleep g t) h) at keeps (grind arith) (grind arith) (λ d i u k e. grind (arith, e)) in
    grind (arith, slept, left)
keeps_step s p c Uncount h at keeps = keeps_write s (record s.words { sleepers = s.words.sleepers - 1 }) s.value p (resting h) (Calling c Uncount h) at keeps
    (grind (arith, rest_is h, keeps.counted, count_some is_counted s.seats p (Calling c Uncount h) at)) (grind arith) (λ d i t k e. no_sleep h d i t k s.words.parked e)
keeps_step s p c Ring h at keeps = keeps_write s (record s.words { rings = s.words.rings + 1 }) s.value p (Calling c Look h) (Calling c Ring h) at keeps (grind arith) (grind arith) (λ d i t k e. grind (arith, e))
keeps_step s p c Look h at keeps =
    let ends = keeps_write s s.words s.value p (resting h) (Calling c Look h) at keeps (grind (arith, rest_is h)) (grind arith) (λ d i t k e. no_sleep h d i t k s.words.parked e) in
    let goes = keeps_write s s.words s.value p (Calling c Wake h) (Calling c Look h) at keeps (grind arith) (grind arith) (λ d i t k e. grind (arith, e)) in
    grind (arith, ends, goes)
keeps_step s p c Wake h at keeps = keeps_write s (woken_by c s.words) s.value p (resting h) (Calling c Wake h) at keeps (grind (arith, rest_is h)) (grind arith) (λ d i t k e. no_sleep h d i t k (woken_by c s.words).parked e)

-- a move of the party at this seat
keeps_seat : (s : EventState) (p : ℕ) (move : Move EventCall (Unit {0})) (seat : EventSeat) → slice_get s.seats p ≡ Some seat → Keeps s → Keeps (moves event_machine s p move seat).next
keeps_seat s p (Begin c) Idle at keeps = keeps_write s s.words s.value p (Calling c (starts_at c) None) Idle at keeps (grind arith) (grind arith) (λ d i t k e. grind (arith, e))
keeps_seat s p (Begin c) (Holding h) at keeps = keeps
keeps_seat s p (Begin c) (Calling d l h) at keeps = keeps
keeps_seat s p (Begin c) (Leaked h) at keeps = keeps
keeps_seat s p (Begin c) (Gone h) at keeps = keeps
keeps_seat s p Step (Calling c l h) at keeps = keeps_step s p c l h at keeps
keeps_seat s p Step Idle at keeps = keeps
keeps_seat s p Step (Holding h) at keeps = keeps
keeps_seat s p Step (Leaked h) at keeps = keeps
keeps_seat s p Step (Gone h) at keeps = keeps
keeps_seat s p Weak (Calling c (Asleep g t) h) at keeps = keeps_write s s.words s.value p (Calling c Uncount h) (Calling c (Asleep g t) h) at keeps (grind arith) (grind arith) (λ d i u k e. grind (arith, e))
keeps_seat s p Weak seat at keeps = keeps
keeps_seat s p Read seat at keeps = grind (arith, keeps, keeps.counted, keeps.placed)
keeps_seat s p (Write v) seat at keeps = grind (arith, keeps, keeps.counted, keeps.placed)
keeps_seat s p Leak (Holding h) at keeps = keeps_write s s.words s.value p (Leaked h) (Holding h) at keeps (grind arith) (grind arith) (λ d i t k e. grind (arith, e))
keeps_seat s p Leak seat at keeps = keeps
keeps_seat s p OwnerGet seat at keeps = keeps
keeps_seat s p (OwnerSet v) seat at keeps = keeps

pub keeps_move : (s : EventState) (p : ℕ) (move : Move EventCall (Unit {0})) (o : Option EventSeat) → slice_get s.seats p ≡ o → Keeps s → Keeps (moves_at event_machine s p move o).next
keeps_move s p move None at keeps = keeps
keeps_move s p move (Some seat) at keeps = keeps_seat s p move seat at keeps

pub keeps_after : (s : EventState) (past : EventSchedule) → Keeps s → Keeps (after event_machine s past)
keeps_after s [] keeps = keeps
keeps_after s (e ∷ es) keeps = keeps_after (happens event_machine s e.0 e.1).next es (keeps_move s e.0 e.1 (slice_get s.seats e.0) refl keeps)
