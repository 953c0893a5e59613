-- What a party has done from one of its steps to a later one, in one lock.
use Rattle.std.specs.Prelude.{◌≡◌, Bool, true, Option, Some, List}
use Rattle.spin_step.specs.declared.schedule.Outcome.{Outcome}
use Rattle.spin_step.specs.Machines.{Machine}
use Rattle.spin_step.specs.Schedules.{Entry}
use Rattle.spin_core.specs.Logs.{KnowsBoth}
use Rattle.spin_core.specs.Own.{Numbered, what}
use Rattle.spin_core.specs.Passes.{Course, Made, IsCall, IsOneStep, Begins, Waits, WritesSome}
use Rattle.spin_core.specs.Values.{IsLast}
use Rattle.spin_core.specs.declared.cell.Permit.{Permit}
use Rattle.spin_core.specs.declared.tie.Opening.{Opening}
use Rattle.spin_core.specs.declared.trace.Watch.{Watch}

-- a party's spot: the key of its lock, its view, and what it knows of the trace
abbrev pub Spot : (K X E : Type 0) → Type 0
Spot K X E = K × Option (Numbered X) × Watch E

abbrev pub spot : {T P K X E S : Type 0} → Permit T (Numbered X) P K S → Watch E → Spot K X E
spot permit seen = (permit.key, permit.view, seen)

-- The party at `now` is the one at `before`. It also knows these entries of the trace: the longer of the two histories.
abbrev pub Learns : {K X E : Type 0} → List E → Spot K X E → Spot K X E → Type 0
Learns known before now = (now.0 ≡ before.0) × (now.1 ≡ before.1) × (now.2.name ≡ before.2.name) × KnowsBoth before.2.entries known now.2.entries

-- For locks that run a model, which is given by the key:
module _ {K W V C L A X : Type 0} (model : K → Machine W V C L A) where
  -- from the spot p to the spot q the party has made exactly the moves of this course, in one lock
  abbrev pub Since : Course V C A → Spot K X (Entry C V) → Spot K X (Entry C V) → Type 0
  Since course p q = Made (model p.0) p.1 p.2.entries q.1 q.2.entries course × (q.2.name ≡ p.2.name) × (q.0 ≡ p.0)

  -- from p to q the party has made one step of this call, with this outcome, and at q it has this view
  abbrev pub Stepped : Bool → C → Outcome A V → X → Spot K X (Entry C V) → Spot K X (Entry C V) → Type 0
  Stepped goes_on call end view p q = Since (IsOneStep goes_on call end) p q × (what q.1 ≡ Some view)

  -- at q the party waits in this call, which it began at p
  abbrev pub IsIn : C → Spot K X (Entry C V) → Spot K X (Entry C V) → Type 0
  IsIn call = Since (Begins call Waits)

  -- from p to q the party has made exactly this call, with this answer
  abbrev pub HasCalled : C → A → Spot K X (Entry C V) → Spot K X (Entry C V) → Type 0
  HasCalled call answer = Since (IsCall call answer)

-- For locks whose opening is given by the key as well:
module _ {K W V C L A X : Type 0} (model : K → Machine W V C L A) (opening : K → Opening V) where
  -- From p to q the holder has written a value and made this call. If the opening's `told` is true, this value is x,
  -- and at q the trace says that x was written last.
  abbrev pub Releases : C → A → V → Spot K X (Entry C V) → Spot K X (Entry C V) → Type 0
  Releases call answer x p q = Since model (WritesSome (λ y. (opening p.0).told ≡ true → y ≡ x) (IsCall call answer)) p q × IsLast (opening p.0) q.2.entries x
