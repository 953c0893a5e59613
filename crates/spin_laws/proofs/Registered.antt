-- A registered party may starve in a `lock` of a fair lock.
use Rattle.spin_laws.proofs.Names.{◌≡◌, ℕ, zero, suc, ◌+◌, ◌≤◌, nat_lt, min, true, false, Some, None, List, [], ◌∷◌, ◌++◌, slice_get, refl, ap, arith, lt-ltb, most_starvers, Calling, Holding, Move, Begin, Step, State, Machine, Answer, after, at_first, opening, seen_after, calls, ends_or_weak, fair_machine}
use Rattle.std.proofs.lemmas.Bool.{le-ltb}
use Rattle.spin_step.proofs.Schedules.{after-append}
use Rattle.spin_step.specs.Asks.{waits_or_starves}
use Rattle.spin_step.specs.declared.place.Hold.TheVariants as hold
use Rattle.spin_step_more.specs.declared.fair_calls.FairCall.{FairCall}
use Rattle.spin_step_more.specs.declared.fair_calls.FairCall.TheVariants.{Lock, TryLock, Starve, StarverLock, Release}
use Rattle.spin_step_more.specs.declared.fair_calls.FairPoint.{FairPoint}
use Rattle.spin_step_more.specs.declared.fair_calls.FairPoint.TheVariants.{Look, Load, SetFlag}
use Rattle.spin_world.proofs.FairOwed.{fair_facts}
use Rattle.spin_world.proofs.FairNames.{is_starver-from_entries}
use Rattle.spin_laws.specs.Starving.{MayStarveWhere, Starves}
use Rattle.spin_laws.proofs.Around.{forever_where}

module _ {V : Type 0} (v : V) (cap patience : ℕ) where
  abbrev m : Machine ℕ V FairCall FairPoint (Answer V)
  m = fair_machine v cap patience

  abbrev World : Type 0
  World = State ℕ V FairCall FairPoint

  abbrev Schedule : Type 0
  Schedule = List (ℕ × Move FairCall V)

  -- party 0 waits in a `lock` as a newcomer, at this point, and party 1 holds the lock as a newcomer
  abbrev beside : FairPoint → World
  beside l = record { words = 1; value = Some v; seats = Calling Lock l None ∷ Holding hold.Write ∷ [] }

  -- k looks and one more
  abbrev looks : ℕ → Schedule
  looks zero = (0, Step) ∷ []
  looks (suc k) = (0, Step) ∷ looks k

  -- party 0 has looked n times, and goes on to register when it has looked often enough
  looked : (k n : ℕ) → n + k ≡ patience → after m (beside (Look n)) (looks k) ≡ beside Load
  looked zero n is = let often : nat_lt n patience ≡ false = le-ltb n patience (omega (arith, is)) in grind (arith, often)
  looked (suc k) n is = grind (arith, lt-ltb, after, looked k (n + 1) (omega (arith, is)))

  abbrev front : Schedule
  front = (1, Begin TryLock) ∷ (1, Step) ∷ (0, Begin Lock) ∷ (0, Step) ∷ []

  -- party 0 registers, and party 1 releases the lock and registers
  abbrev back : Schedule
  back = (0, Step) ∷ (0, Step) ∷ (1, Begin Release) ∷ (1, Step) ∷ (1, Begin Starve) ∷ (1, Step) ∷ (1, Step) ∷ []

  abbrev past : Schedule
  past = front ++ (looks patience ++ back)

  -- both parties are registered, and nobody holds the lock
  abbrev start : World
  start = record { words = 4; value = Some v; seats = Calling Lock SetFlag None ∷ Holding hold.Starver ∷ [] }

  -- Party 1 has set the flag whenever party 0 tries to set it, and has released when party 0 looks.
  abbrev turn : Schedule
  turn = (1, Step) ∷ (0, Step) ∷ (1, Step) ∷ (1, Begin Release) ∷ (1, Step) ∷ (1, Begin Starve) ∷ (1, Step) ∷ (1, Step) ∷ (0, Step) ∷ []

  module _ (two : 2 ≤ cap) where
    room : nat_lt 0 (min cap most_starvers) ≡ true
    room = lt-ltb 0 (min cap most_starvers) (omega (arith, two))

    more : nat_lt 1 (min cap most_starvers) ≡ true
    more = lt-ltb 1 (min cap most_starvers) (omega (arith, two))

    at_front : after m (at_first m 2) front ≡ beside (Look 0)
    at_front = grind arith

    at_back : after m (beside Load) back ≡ start
    at_back = grind (arith, room, more)

    there : after m (at_first m 2) past ≡ start
    there = grind (arith, after-append, at_first, front, looks, after, at_front, beside, looked, at_back)

    seated : slice_get (after m (at_first m 2) past).seats 0 ≡ Some (Calling Lock SetFlag None)
    seated = ap (λ (s : World). slice_get s.seats 0) there

    pub registered_starves : MayStarveWhere Starves m 2 (waits_or_starves patience)
    registered_starves =
        forever_where m Starves ends_or_weak 2 past start there (1, Begin StarverLock) turn Lock SetFlag None refl
        (grind (arith, more), grind (arith, more), grind (arith, more))
        (grind (arith, (calls (fair_facts v cap patience) 2 past 0 seated).knows, is_starver-from_entries 0 (seen_after m (opening m 2) past).plain.starvers))
