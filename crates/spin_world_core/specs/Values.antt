-- Values that closures make: what the world has, what a step stores, and what an answer gives.
use Rattle.spin_world_core.specs.Runs.{Schedule}
use Rattle.std.specs.Prelude.{◌≡◌, ℕ, Bool, true, false, Option, Some, None, is_some}
use Rattle.spin_step.specs.Plain.{Phase, is_complete, Change, completes}
use Rattle.spin_step.specs.declared.place.Seat.{Seat}
use Rattle.spin_step.specs.declared.place.Seat.TheVariants.{Calling}
use Rattle.spin_step.specs.declared.schedule.Move.{Move}
use Rattle.spin_step.specs.declared.schedule.Move.TheVariants.{Step, Weak}
use Rattle.spin_step.specs.declared.schedule.Outcome.{Outcome}
use Rattle.spin_step.specs.declared.schedule.Outcome.TheVariants as outcome
use Rattle.spin_step.specs.Calls.{Said, gives_value}
use Rattle.spin_step.specs.Machines.{Machine, opening_plain}
use Rattle.spin_world_core.specs.Runs.{Scene, Every, opening}

-- if closures make the value, the world has a value exactly if the phase is complete
abbrev pub HasPhase : {V : Type 0} → Bool → Phase → Option V → Type 0
HasPhase makes phase value = elim makes [ true ↦ is_complete phase ≡ is_some value | false ↦ Unit {0} ]

-- after a closure completes, the value is the one that its own call brings
abbrev pub Brings : {W V C L A : Type 0} → Machine W V C L A → Option Change → Option (Seat C L) → Option V → Type 0
Brings m (Some (completes p)) (Some (Calling c l h)) value = value ≡ m.brings c
Brings m (Some (completes p)) _ value = ⊥
Brings m _ _ value = Unit {0}

-- If closures make the value, an answer gives a value exactly if the answer says so. That value is the present one.
abbrev pub GivesIfSaid : {V : Type 0} → Bool → Said → Option V → Option V → Type 0
GivesIfSaid true gives_value (Some v) value = value ≡ Some v
GivesIfSaid true gives_value None value = ⊥
GivesIfSaid true _ given value = given ≡ None
GivesIfSaid false _ given value = Unit {0}

abbrev pub GivesAt : {W V C L A : Type 0} → Machine W V C L A → Move C V → Outcome A V → Option V → Type 0
GivesAt m Step (outcome.Answered a b) value = GivesIfSaid m.lock_kind.makes_value (m.says a) (m.gives a) value
GivesAt m Weak (outcome.Answered a b) value = GivesIfSaid m.lock_kind.makes_value (m.says a) (m.gives a) value
GivesAt m _ _ value = Unit {0}

pub record KeepsValue {W V C L A : Type 0} (m : Machine W V C L A) (s : Scene W V C L A) : Type 0 where
  pub phase : HasPhase m.lock_kind.makes_value s.after.plain.phase s.after.state.value
  pub brings : Brings m s.change s.seat s.after.state.value
  pub gives : GivesAt m s.move s.outcome s.after.state.value

-- over a whole schedule, from the opening of a world of n parties
pub record ValuesAll {W V C L A : Type 0} (m : Machine W V C L A) (n : ℕ) (entries : Schedule C V) : Type 0 where
  pub first : HasPhase m.lock_kind.makes_value (opening_plain m).phase m.value
  pub each : Every (KeepsValue m) m (opening m n) entries
