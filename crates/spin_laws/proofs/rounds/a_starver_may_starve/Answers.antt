use Rattle.spin_laws.proofs.Names.{◌≡◌, ◌∷◌, [], Some, true, nat_lt, min, arith, refl, Begin, Step, Calling, Holding, lt-ltb, most_starvers, fair_machine}
use Rattle.spin_step.specs.declared.place.Hold.TheVariants as hold
use Rattle.spin_step_more.specs.declared.fair_calls.FairCall.TheVariants.{Starve, StarverLock, Release}
use Rattle.spin_step_more.specs.declared.fair_calls.FairPoint.TheVariants.{SetFlag}
use Rattle.spin_laws.proofs.Around.{starves}
use Rattle.spin_laws.proofs.rounds.a_starver_may_starve.Goals as goal

pub returns : goal.returns
returns g c = λ object two.
    -- the other starver has set the flag whenever party 0 tries to set it, and has released when party 0 looks
    let room : nat_lt 0 (min object.cap most_starvers) ≡ true = lt-ltb 0 (min object.cap most_starvers) (omega (arith, two)) in
    let more : nat_lt 1 (min object.cap most_starvers) ≡ true = lt-ltb 1 (min object.cap most_starvers) (omega (arith, two)) in
    starves (fair_machine object.value object.cap object.patience) 2
    ((0, Begin Starve) ∷ (0, Step) ∷ (0, Step) ∷ (1, Begin Starve) ∷ (1, Step) ∷ (1, Step) ∷ (0, Begin StarverLock) ∷ [])
    (record { words = 4; value = Some object.value; seats = Calling StarverLock SetFlag (Some hold.Starver) ∷ Holding hold.Starver ∷ [] })
    (grind (arith, room, more)) (1, Begin StarverLock)
    ((1, Step) ∷ (0, Step) ∷ (1, Step) ∷ (1, Begin Release) ∷ (1, Step) ∷ (1, Begin Starve) ∷ (1, Step) ∷ (1, Step) ∷ (0, Step) ∷ [])
    StarverLock SetFlag (Some hold.Starver) refl (grind (arith, more), grind (arith, more), grind (arith, more))
