-- The table of a fair lock refines the plain lock: of its holders and starvers at most one holds.
use Rattle.std.proofs.Common.{◌≡◌, ◌≢◌, ◌⊎◌, ℕ, ◌+◌, ◌<◌, ◌≤◌, ◌%◌, ◌==◌, if◌then◌else◌, Option, Some, None, List, [], length, false, inr, bit_or, ◌/◌, slice_get, refl, arith}
use Rattle.std.proofs.lemmas.Nat.{or_block}
use Rattle.std.specs.Int.Bits.{or_zero_r}
use Rattle.spin_step.specs.Plain.{Plain, writing, fair_word}
use Rattle.spin_step.specs.Parties.{OneHolds}
use Rattle.spin_step.specs.Orders.{IsInOrder}
use Rattle.spin_step.specs.Acts.{Table}
use Rattle.spin_step.specs.declared.answer.Answer.{Answer}
use Rattle.spin_step.specs.declared.place.Hold.{Hold}
use Rattle.spin_step.specs.declared.place.Hold.TheVariants as hold
use Rattle.spin_step.specs.declared.place.Seat.TheVariants.{Calling, Holding}
use Rattle.spin_step.proofs.Holders.{is_holder-from_entries, length-without_holder}
use Rattle.spin_step.proofs.Starvers.{length-without_starver, is_starver-from_entries}
use Rattle.spin_step_more.specs.declared.fair_calls.FairCall.{FairCall}
use Rattle.spin_step_more.specs.declared.fair_calls.FairCall.TheVariants.{TryLockStarver, StarverTryLockFair, StarverDrop, Release}
use Rattle.spin_step_more.specs.declared.fair_calls.FairPoint.{FairPoint}
use Rattle.spin_step_more.specs.declared.fair_calls.FairPoint.TheVariants.{First, Register, SetFlag, Unregister}
use Rattle.spin_step_more.specs.Starvers.{is_held_word, most_starvers}
use Rattle.spin_step_more.specs.FairCalls.{fair_table}
use Rattle.spin_step_more.proofs.FairSteps.{fair_lock-grants, fair_starve-grants, fair_lock_fair-grants, fair_lock_starved-grants, fair_unstarve-gives, fair_unlock-gives}
use Rattle.spin_core.specs.Cell.{word_limit, reading, writing as writes_of, writers_of, MeetsRule}
use Rattle.spin_core.specs.Views.{Part, starves, HasPart, IsLockOf, entries_of_part}
use Rattle.spin_core.specs.declared.tie.Opening.{Opening}
use Rattle.spin_core.specs.declared.trace.Trace.{Trace}
use Rattle.spin_core.proofs.tie.Leaving.{fair_word-up}
use Rattle.spin_core.proofs.tie.Owners.{Writes as MayWrite, one_holds, one_user, writers_among}
use Rattle.spin_core.proofs.tie.Views.{release-own}
use Rattle.spin_session.specs.Meaning.{AreWords, just_one, Sound, ComesFrom, Refines, part_of, use_at, ways_of}
use Rattle.spin_session.specs.Turns.{Ended, Knows}
use Rattle.spin_step.specs.declared.answer.Answer.TheVariants.{Granted, Locked, Starved}
use Rattle.spin_step.specs.declared.schedule.Outcome.TheVariants.{Answered}
use Rattle.spin_step.specs.Schedules.{State, moves_at}
use Rattle.spin_step.specs.declared.schedule.Move.{Move}
use Rattle.spin_step.proofs.Lists.{get-set_same}
use Rattle.spin_session.proofs.Refining as session
use Rattle.spin_session.proofs.Word.{word_is}
use Rattle.spin_session.specs.Passes.{Writes}
use Rattle.spin_session.proofs.Granted.{stands_writes}
use Rattle.spin_fair.specs.Fair.{Done, EndsRegistration, Enters, View, IsFair, fair_meaning, fair_tables, model, patience}
use Rattle.spin_fair.specs.FairPasses.{FairSpot}

-- the operation that sets the lowest bit

pub set_is : (n : ℕ) → bit_or n 1 ≡ (if n % 2 == 0 then n + 1 else n)
set_is n = grind (arith, or_block 1 (n / 2) 0 (n % 2) 1, or_zero_r (n / 2))

module _ {T : Type 0} (value : T) (p : ℕ) (s : Plain) (from : Part) (room : s.cap ≡ most_starvers) (order : IsInOrder s) (one : OneHolds s) (has : HasPart s p from) where
  small : fair_word s < word_limit
  small = omega (arith, room, order.starvers_fit, one)

  -- a starver sets the flag
  sets : (c : FairCall) (h : Option Hold) → ComesFrom (fair_table value most_starvers patience) fair_meaning c SetFlag h from → Sound (fair_table value most_starvers patience) fair_meaning c SetFlag h p s from
  sets c h comes = let e : from ≡ starves = grind (arith, comes) in
      grind (arith, comes, has.0, is_starver-from_entries p s.starvers, fair_lock_starved-grants s p (fair_word s) one, set_is (fair_word s))

  -- what each step of a call is in the plain lock
  sound : (l : FairPoint) (c : FairCall) (h : Option Hold) → ComesFrom (fair_table value most_starvers patience) fair_meaning c l h from → Sound (fair_table value most_starvers patience) fair_meaning c l h p s from
  sound First Release h comes = grind (arith, comes, has.0, is_holder-from_entries p writing s.holders, release-own s p writing, fair_unlock-gives s p writing (fair_word s) refl, length-without_holder p writing s.holders, small)
  sound First StarverDrop h comes = grind (arith, comes, has.0, is_starver-from_entries p s.starvers, fair_unstarve-gives s p (fair_word s) refl, length-without_starver p s.starvers, small)
  sound Unregister c h comes = grind (arith, comes, has.0, is_starver-from_entries p s.starvers, fair_unstarve-gives s p (fair_word s) refl, length-without_starver p s.starvers, small)
  sound First StarverTryLockFair h comes = grind (arith, comes, has.0, is_starver-from_entries p s.starvers, fair_lock_fair-grants s p (fair_word s) one)
  sound SetFlag c h comes = sets c h comes
  sound (Register n) c h comes = grind (arith, comes, fair_starve-grants s p (fair_word s) most_starvers one room refl)
  sound l c h comes = grind (arith, comes, fair_lock-grants s p (fair_word s) refl)

-- A party that uses the value holds the lock, and writes.
facts : (v : View) → MayWrite (part_of fair_meaning) (part_of fair_meaning v) × (reading (use_at fair_meaning v) ≡ 0) × (writes_of (use_at fair_meaning v) ≤ length (entries_of_part 0 (part_of fair_meaning v)).holders)
facts v = grind arith

pub one_holder : (vs : List View) (plain : Plain) → IsInOrder plain → IsLockOf (part_of fair_meaning) vs plain → OneHolds plain
one_holder = one_holds (part_of fair_meaning) (λ v. (facts v).0)

-- nobody writes while the word shows no holder
pub quiet : {m : Unit {0}} (n : ℕ) → is_held_word n ≡ false → (vs : List View) → AreWords just_one fair_meaning n m vs → writers_of (use_at fair_meaning) vs ≡ 0
quiet n free vs is = let words = is.0 in
    grind (arith, free, words.4, one_holder vs words.0 words.2 words.3, writers_among (part_of fair_meaning) (λ v. (facts v).2) vs words.0 words.3)

module _ {T : Type 0} (value : T) where
  abbrev table : Table ℕ T FairCall FairPoint (Answer T)
  table = fair_table value most_starvers patience

  pub fair_refines : Refines table fair_meaning
  fair_refines = record {
    one_word = λ l. refl;
    operates = grind arith;
    writes_word = λ c l h w. word_is T (table.act c l h) w (grind arith);
    opens_at = (refl, refl);
    bounds_opening = tt;
    nobody = fair_word-up;
    fits = one_user (part_of fair_meaning) facts most_starvers;
    goes = grind arith;
    sound = λ c l h p plain vs from comes room order is fine has. sound value p plain from room order (one_holder vs plain order is) has l c h comes;
  }

pub starts : {T : Type 0} (opening : Opening T) (trace : Trace (Done T) (Unit {0})) → trace.name ≡ opening.name → trace.entries ≡ [] → MeetsRule (IsFair opening) (ways_of fair_meaning opening) 0 trace []
starts opening trace named empty = session.starts (fair_table opening.value most_starvers patience) fair_meaning (fair_refines opening.value) opening trace named empty

-- A newcomer that asks for the reason is granted the lock, or finds it held, or finds a starver.
module _ {T : Type 0} (p q : FairSpot T) (a : Answer (Unit {0})) (after : Option Hold) (so : Ended fair_tables fair_meaning TryLockStarver None a after p q) where
  pub came : a ≡ Granted → Knows fair_meaning q → Writes fair_meaning q
  came is knows = let (l, n, next, may) = so.2 in let e : after ≡ Some hold.Write = grind (arith, is, next, may) in
      stands_writes fair_meaning q hold.Write refl (knows.0, knows.1, rw e at so.1)

  pub is_starved : (a ≢ Granted) → (a ≢ Locked) → a ≡ Starved
  is_starved free held = let (l, n, next, may) = so.2 in grind (arith, next, may, free, held)

-- a party is granted the lock by a step that found the word 0, or by the one that ends its registration
module _ {T : Type 0} (value : T) (s : State ℕ T FairCall FairPoint) (p : ℕ) where
  granted_free : (move : Move FairCall T) (before : Option View) → slice_get s.seats p ≡ before → (moves_at (model value) s p move before).outcome ≡ Answered Granted None
      → slice_get (moves_at (model value) s p move before).next.seats p ≡ Some (Holding hold.Write) → (s.words ≡ 0) ⊎ EndsRegistration before
  granted_free move (Some (Calling c Unregister h)) is granted now = inr (c, h, refl)
  granted_free move (Some seat) is granted now = grind (arith, is, granted, now, λ (x : View). get-set_same s.seats p x seat is)
  granted_free move None is granted now = absurd cc

  pub entered_free : (move : Move FairCall T) → Enters value s p move → (s.words ≡ 0) ⊎ EndsRegistration (slice_get s.seats p)
  entered_free move so = granted_free move (slice_get s.seats p) refl so.0 so.1
