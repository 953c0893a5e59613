-- What users of a fair lock rely on.
use Rattle.spin_world.specs.Fair.{FairMachine}
use Rattle.spin_world_core.specs.Runs.{state_at}
use Rattle.spin_world_core.specs.Users.{IsCalling}
use Rattle.spin_world_core.specs.Users.{seen_at}
use Rattle.spin_world_core.specs.Runs.{Schedule}
use Rattle.std.specs.Prelude.{◌≡◌, ℕ, ◌+◌, ◌%◌, ◌⊎◌, true, false, Option, Some, None, [], ◌∷◌, slice_get}
use Rattle.spin_step.specs.Plain.{Plain, writing, holder, is_holder, is_starver}
use Rattle.spin_step.specs.Parties.{Entries, entries, no_entries}
use Rattle.spin_step.specs.declared.answer.Answer.TheVariants.{Granted}
use Rattle.spin_step.specs.declared.place.Hold.{Hold}
use Rattle.spin_step.specs.declared.place.Seat.TheVariants.{Calling}
use Rattle.spin_step.specs.declared.schedule.Move.{Move}
use Rattle.spin_step.specs.declared.schedule.Move.TheVariants.{Step}
use Rattle.spin_step.specs.declared.schedule.Outcome.TheVariants.{Answered}
use Rattle.spin_step.specs.declared.stepped.Next.TheVariants.{Continue}
use Rattle.spin_world_core.specs.Runs.{scene}
use Rattle.spin_world_core.specs.Users.{outcome_after}
use Rattle.spin_step_more.specs.declared.fair_calls.FairCall.{FairCall}
use Rattle.spin_step_more.specs.declared.fair_calls.FairPoint.{FairPoint}

-- nobody holds the lock, and nobody starves
abbrev pub IsFree : Plain → Type 0
IsFree s = (s.holders ≡ []) × (s.starvers ≡ [])

-- if a party acquires the lock by its move, and was no starver before the move, then nobody was a starver
abbrev pub ComesAfterStarvers : {V : Type 0} → FairMachine V → ℕ → Schedule FairCall V → ℕ → Move FairCall V → Type 0
ComesAfterStarvers m n past p move = let before = seen_at m n past in
    is_holder p writing before.plain.holders ≡ false → is_starver p before.plain.starvers ≡ false
    → is_holder p writing (scene m before p move).after.plain.holders ≡ true → before.plain.starvers ≡ []

-- the entries, in the lists of the plain lock, of a party that has acquired the lock as a starver and is still
-- registered
abbrev pub holds_registered : ℕ → Entries
holds_registered p = record no_entries { holders = holder p writing ∷ []; starvers = p ∷ [] }

-- after the schedule `past`: if a party in a call holds the lock and is still registered, its next step answers `Granted`
abbrev pub IsGrantedNext : {V : Type 0} → FairMachine V → ℕ → Schedule FairCall V → Type 0
IsGrantedNext m n past = (p : ℕ) (c : FairCall) (l : FairPoint) (h : Option Hold) → IsCalling m n past p c l h
    → entries p (seen_at m n past).plain ≡ holds_registered p → outcome_after m n past p Step ≡ Answered Granted None

-- the entries, in the lists of the plain lock, of a party that is a starver and does not hold the lock
abbrev pub only_starves : ℕ → Entries
only_starves p = record no_entries { starvers = p ∷ [] }

-- the step at this point sets the flag whenever the flag is clear
abbrev pub SetsAClearFlag : {V : Type 0} → FairMachine V → FairCall → FairPoint → Option Hold → Type 0
SetsAClearFlag {V} m c l h = (w : ℕ) (value : Option V) → w % 2 ≡ 0 → (m.step w value c l h).words ≡ w + 1

-- If nobody holds after the schedule `past`, the next step of a waiting starver sets the flag, or leads to a point whose step sets a clear flag.
abbrev pub GoesForAClearFlag : {V : Type 0} → FairMachine V → ℕ → Schedule FairCall V → Type 0
GoesForAClearFlag m n past = (p : ℕ) (c : FairCall) (l : FairPoint) (h : Option Hold) → let s = state_at m n past in
    let plain = (seen_at m n past).plain in
    slice_get s.seats p ≡ Some (Calling c l h) → (m.asks c h).waits ≡ true → entries p plain ≡ only_starves p → plain.holders ≡ []
    → ((m.step s.words s.value c l h).words ≡ s.words + 1) ⊎ ((to : FairPoint) × ((m.step s.words s.value c l h).next ≡ Continue to) × SetsAClearFlag m c to h)
