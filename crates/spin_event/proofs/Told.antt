-- A sleeper is awake, or has heard all rings, or somebody is about to wake all.
use Rattle.std.proofs.Common.{◌≡◌, ℕ, ◌+◌, ◌-◌, ◌≤◌, ◌<◌, ◌⊎◌, Bool, true, false, Option, Some, None, [], ◌∷◌, slice_get, slice_set, refl, arith}
use Rattle.spin_step.specs.Steps.{bit}
use Rattle.spin_step.specs.declared.place.Hold.{Hold}
use Rattle.spin_step.specs.declared.place.Seat.TheVariants.{Idle, Calling, Holding, Leaked, Gone}
use Rattle.spin_step.specs.declared.schedule.Move.{Move}
use Rattle.spin_step.specs.declared.schedule.Move.TheVariants.{Begin, Step, Weak, Read, Write, Leak, OwnerGet, OwnerSet}
use Rattle.spin_step.specs.Schedules.{moves_at, moves, resting, happens, after}
use Rattle.spin_event.specs.declared.calls.EventWords.{EventWords}
use Rattle.spin_event.specs.declared.calls.EventCall.{EventCall}
use Rattle.spin_event.specs.declared.calls.EventPoint.{EventPoint}
use Rattle.spin_event.specs.declared.calls.EventPoint.TheVariants.{Load, Count, Park, Asleep, Uncount, Ring, Look, Wake}
use Rattle.spin_event.specs.EventCalls.{event_machine, is_heard, EventSchedule, starts_at, woken_by}
use Rattle.spin_event.specs.Sleeping.{EventState, EventSeat, how_many, is_counted, wakes_all, is_for_one, is_for_all}
use Rattle.spin_event.proofs.Places.{get_either, count_set, count_some}
use Rattle.std.specs.List.{list_any}
use Rattle.spin_event.proofs.Kept.{Keeps, keeps_move, written}

abbrev pub Fine : EventWords → ℕ → ℕ → ℕ → Type 0
Fine w k g t = (t < w.woken) ⊎ (is_heard g w.rings ≡ true) ⊎ (1 ≤ k)

abbrev pub Told : EventState → Type 0
Told s = (p : ℕ) (c : EventCall) (g t : ℕ) (h : Option Hold) → slice_get s.seats p ≡ Some (Calling c (Asleep g t) h) → Fine s.words (how_many wakes_all s.seats) g t

abbrev fits : EventCall → EventPoint → Bool
fits c l = elim l [ Ring ↦ is_for_all c | Look ↦ is_for_all c | Wake ↦ is_for_all c | _ ↦ true ]

-- who rings, rings for all
abbrev pub Only : EventState → Type 0
Only s = (p : ℕ) (c : EventCall) (l : EventPoint) (h : Option Hold) → slice_get s.seats p ≡ Some (Calling c l h) → fits c l ≡ true

pub record Holds (s : EventState) : Type 0 where
  pub keeps : Keeps s
  pub only : Only s
  pub told : Told s

-- who rings in this seat, rings for all
abbrev Right : EventSeat → Type 0
Right x = elim x [ Calling c l h ↦ fits c l ≡ true | _ ↦ Unit {0} ]

only_write : (s : EventState) (w : EventWords) (v : Option (Unit {0})) (p : ℕ) (x : EventSeat) → Only s → Right x → Only (written w v s.seats p x)
only_write s w v p x only right q d l k there = grind (arith, only q d l k, get_either s.seats p q x (Calling d l k) there, right)

module _ (s : EventState) (w : EventWords) (v : Option (Unit {0})) (p : ℕ) (x y : EventSeat) (at : slice_get s.seats p ≡ Some y) where
  told_write : Keeps s → Told s
      → ((g t : ℕ) → t < s.words.parked → 1 ≤ s.words.sleepers → Fine s.words (how_many wakes_all s.seats) g t → Fine w (how_many wakes_all (slice_set s.seats p x)) g t)
      → ((c : EventCall) (g t : ℕ) (h : Option Hold) → x ≡ Calling c (Asleep g t) h → Fine w (how_many wakes_all (slice_set s.seats p x)) g t)
      → Told (written w v s.seats p x)
  told_write keeps told others own q d i t k there =
      let sleeper : EventSeat = Calling d (Asleep i t) k in
      let old : slice_get s.seats q ≡ Some sleeper → Fine w (how_many wakes_all (slice_set s.seats p x)) i t = λ e.
      others i t (keeps.placed q d i t k e) (grind (arith, keeps.counted, count_some is_counted s.seats q sleeper e)) (told q d i t k e) in
      grind (arith, old, own d i t k, get_either s.seats p q x sleeper there)

  -- the same, if the words for sleepers stay, and the seat is about to wake all as before
  same_write : Keeps s → Told s → w.woken ≡ s.words.woken → w.rings ≡ s.words.rings → bit (wakes_all x) ≡ bit (wakes_all y)
      → ((c : EventCall) (g t : ℕ) (h : Option Hold) → x ≡ Calling c (Asleep g t) h → Fine s.words (how_many wakes_all s.seats) g t)
      → Told (written w v s.seats p x)
  same_write keeps told woken rings alike own =
      let same : how_many wakes_all (slice_set s.seats p x) ≡ how_many wakes_all s.seats = omega (arith, count_set wakes_all s.seats p x y at, alike) in
      told_write keeps told (λ g t placed some fine. grind (arith, fine, woken, rings, same)) (λ d i t k e. grind (arith, own d i t k e, woken, rings, same))

rest_wakes : (h : Option Hold) → wakes_all (resting h) ≡ false
rest_wakes h = grind arith

rest_right : (h : Option Hold) → Right (resting h)
rest_right h = grind arith

pub no_sleep : (h : Option Hold) (c : EventCall) (g t : ℕ) (k : Option Hold) (X : Type 0) → resting h ≡ Calling c (Asleep g t) k → X
no_sleep h c g t k X e = grind (arith, e)

told_step : (s : EventState) (p : ℕ) (c : EventCall) (l : EventPoint) (h : Option Hold) → slice_get s.seats p ≡ Some (Calling c l h) → Keeps s → Told s → fits c l ≡ true
    → Told (moves event_machine s p Step (Calling c l h)).next
told_step s p c Load h at keeps told one = same_write s s.words s.value p (resting h) (Calling c Load h) at keeps told refl refl (grind (arith, rest_wakes h)) (λ d i t k e. no_sleep h d i t k _ e)
told_step s p c (Count g) h at keeps told one = same_write s (record s.words { sleepers = s.words.sleepers + 1 }) s.value p (Calling c (Park g) h) (Calling c (Count g) h) at keeps told refl refl (grind arith) (λ d i t k e. grind (arith, e))
told_step s p c (Park g) h at keeps told one =
    let slept : is_heard g s.words.rings ≡ true → Told (written (record s.words { parked = s.words.parked + 1 }) s.value s.seats p (Calling c (Asleep g s.words.parked) h)) = λ heard.
    same_write s (record s.words { parked = s.words.parked + 1 }) s.value p (Calling c (Asleep g s.words.parked) h) (Calling c (Park g) h) at keeps told refl refl (grind arith) (λ d i t k e. grind (arith, e, heard)) in
    let left = same_write s s.words s.value p (Calling c Uncount h) (Calling c (Park g) h) at keeps told refl refl (grind arith) (λ d i t k e. grind (arith, e)) in
    grind (arith, slept, left)
told_step s p c (Asleep g t) h at keeps told one =
    let slept = same_write s s.words s.value p (Calling c (Asleep g t) h) (Calling c (Asleep g t) h) at keeps told refl refl refl (λ d i u k e. grind (arith, e, told p c g t h at)) in
    let left = same_write s s.words s.value p (Calling c Uncount h) (Calling c (Asleep g t) h) at keeps told refl refl (grind arith) (λ d i u k e. grind (arith, e)) in
    grind (arith, slept, left)
told_step s p c Uncount h at keeps told one = same_write s (record s.words { sleepers = s.words.sleepers - 1 }) s.value p (resting h) (Calling c Uncount h) at keeps told refl refl (grind (arith, rest_wakes h)) (λ d i t k e. no_sleep h d i t k _ e)
told_step s p c Ring h at keeps told one =
    let rings : 1 ≤ how_many wakes_all (slice_set s.seats p (Calling c Look h)) = grind (arith, one, count_set wakes_all s.seats p (Calling c Look h) (Calling c Ring h) at) in
    told_write s (record s.words { rings = s.words.rings + 1 }) s.value p (Calling c Look h) (Calling c Ring h) at keeps told (λ g t placed some fine. grind (arith, rings)) (λ d i t k e. grind (arith, e))
told_step s p c Look h at keeps told one =
    let ends : s.words.sleepers ≡ 0 → Told (written s.words s.value s.seats p (resting h)) = λ none.
    told_write s s.words s.value p (resting h) (Calling c Look h) at keeps told (λ g t placed some fine. absurd (omega (arith, some, none))) (λ d i t k e. no_sleep h d i t k _ e) in
    let goes = same_write s s.words s.value p (Calling c Wake h) (Calling c Look h) at keeps told refl refl (grind arith) (λ d i t k e. grind (arith, e)) in
    grind (arith, ends, goes)
told_step s p c Wake h at keeps told one =
    let all : woken_by c s.words ≡ record s.words { woken = s.words.parked } = grind (arith, one) in
    told_write s (woken_by c s.words) s.value p (resting h) (Calling c Wake h) at keeps told (λ g t placed some fine. grind (arith, placed, all)) (λ d i t k e. no_sleep h d i t k _ e)

only_step : (s : EventState) (p : ℕ) (c : EventCall) (l : EventPoint) (h : Option Hold) → slice_get s.seats p ≡ Some (Calling c l h) → Only s
    → Only (moves event_machine s p Step (Calling c l h)).next
only_step s p c Load h at only = only_write s s.words s.value p (resting h) only (rest_right h)
only_step s p c (Count g) h at only = only_write s s.words s.value p (Calling c (Park g) h) only refl
only_step s p c (Park g) h at only =
    let slept = only_write s (record s.words { parked = s.words.parked + 1 }) s.value p (Calling c (Asleep g s.words.parked) h) only refl in
    let left = only_write s s.words s.value p (Calling c Uncount h) only refl in
    grind (arith, slept, left)
only_step s p c (Asleep g t) h at only =
    let slept = only_write s s.words s.value p (Calling c (Asleep g t) h) only refl in
    let left = only_write s s.words s.value p (Calling c Uncount h) only refl in
    grind (arith, slept, left)
only_step s p c Uncount h at only = only_write s s.words s.value p (resting h) only (rest_right h)
only_step s p c Ring h at only = only_write s s.words s.value p (Calling c Look h) only (only p c Ring h at)
only_step s p c Look h at only =
    let ends = only_write s s.words s.value p (resting h) only (rest_right h) in
    let goes = only_write s s.words s.value p (Calling c Wake h) only (only p c Look h at) in
    grind (arith, ends, goes)
only_step s p c Wake h at only = only_write s s.words s.value p (resting h) only (rest_right h)

holds_step : (s : EventState) (p : ℕ) (c : EventCall) (l : EventPoint) (h : Option Hold) → slice_get s.seats p ≡ Some (Calling c l h) → Holds s
    → Holds (moves event_machine s p Step (Calling c l h)).next
holds_step s p c l h at holds = record {
  keeps = keeps_move s p Step (Some (Calling c l h)) at holds.keeps;
  only = only_step s p c l h at holds.only;
  told = told_step s p c l h at holds.keeps holds.told (holds.only p c l h at);
}

-- a move that begins no `NotifyOne`
holds_seat : (s : EventState) (p : ℕ) (move : Move EventCall (Unit {0})) (seat : EventSeat) → slice_get s.seats p ≡ Some seat → is_for_one (p, move) ≡ false → Holds s → Holds (moves event_machine s p move seat).next
holds_seat s p (Begin c) Idle at one holds = record {
  keeps = keeps_move s p (Begin c) (Some Idle) at holds.keeps;
  only = only_write s s.words s.value p (Calling c (starts_at c) None) holds.only (grind (arith, one));
  told = same_write s s.words s.value p (Calling c (starts_at c) None) Idle at holds.keeps holds.told refl refl (grind arith) (λ d i t k e. grind (arith, e));
}
holds_seat s p (Begin c) (Holding h) at one holds = holds
holds_seat s p (Begin c) (Calling d l h) at one holds = holds
holds_seat s p (Begin c) (Leaked h) at one holds = holds
holds_seat s p (Begin c) (Gone h) at one holds = holds
holds_seat s p Step (Calling c l h) at one holds = holds_step s p c l h at holds
holds_seat s p Step Idle at one holds = holds
holds_seat s p Step (Holding h) at one holds = holds
holds_seat s p Step (Leaked h) at one holds = holds
holds_seat s p Step (Gone h) at one holds = holds
holds_seat s p Weak (Calling c (Asleep g t) h) at one holds = record {
  keeps = keeps_move s p Weak (Some (Calling c (Asleep g t) h)) at holds.keeps;
  only = only_write s s.words s.value p (Calling c Uncount h) holds.only refl;
  told = same_write s s.words s.value p (Calling c Uncount h) (Calling c (Asleep g t) h) at holds.keeps holds.told refl refl (grind arith) (λ d i u k e. grind (arith, e));
}
holds_seat s p Weak seat at one holds = holds
holds_seat s p Read seat at one holds = grind (arith, holds)
holds_seat s p (Write v) seat at one holds = let to : Holds (record s { value = Some v }) = record {
  keeps = record { counted = holds.keeps.counted; placed = holds.keeps.placed };
  only = holds.only;
  told = holds.told;
} in grind (arith, holds, to)
holds_seat s p Leak (Holding h) at one holds = record {
  keeps = keeps_move s p Leak (Some (Holding h)) at holds.keeps;
  only = only_write s s.words s.value p (Leaked h) holds.only tt;
  told = same_write s s.words s.value p (Leaked h) (Holding h) at holds.keeps holds.told refl refl (grind arith) (λ d i t k e. grind (arith, e));
}
holds_seat s p Leak seat at one holds = holds
holds_seat s p OwnerGet seat at one holds = holds
holds_seat s p (OwnerSet v) seat at one holds = holds

pub holds_move : (s : EventState) (p : ℕ) (move : Move EventCall (Unit {0})) (o : Option EventSeat) → slice_get s.seats p ≡ o → is_for_one (p, move) ≡ false → Holds s → Holds (moves_at event_machine s p move o).next
holds_move s p move None at one holds = holds
holds_move s p move (Some seat) at one holds = holds_seat s p move seat at one holds

pub holds_after : (s : EventState) (past : EventSchedule) → list_any is_for_one past ≡ false → Holds s → Holds (after event_machine s past)
holds_after s [] one holds = holds
holds_after s (e ∷ es) one holds =
    holds_after (happens event_machine s e.0 e.1).next es (grind (arith, one)) (holds_move s e.0 e.1 (slice_get s.seats e.0) refl (grind (arith, one)) holds)
