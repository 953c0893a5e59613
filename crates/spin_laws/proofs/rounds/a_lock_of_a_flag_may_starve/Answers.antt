use Rattle.spin_laws.proofs.Names.{◌∷◌, [], None, refl, Begin, Step, flag_machine}
use Rattle.spin_step.specs.declared.flag_calls.FlagCall.TheVariants.{Lock, Release}
use Rattle.spin_step.specs.declared.flag_calls.FlagPoint.TheVariants.{First}
use Rattle.spin_laws.proofs.Around.{starves}
use Rattle.spin_laws.proofs.rounds.a_lock_of_a_flag_may_starve.Goals as goal

pub returns : goal.returns
returns g c = λ object.
    -- party 0 makes its exchange while the other party holds, and its look when the other party has released
    starves (flag_machine object.value) 2 ((0, Begin Lock) ∷ []) _ refl (1, Begin Lock)
    ((1, Step) ∷ (0, Step) ∷ (1, Begin Release) ∷ (1, Step) ∷ (0, Step) ∷ []) Lock First None refl (refl, refl, refl)
