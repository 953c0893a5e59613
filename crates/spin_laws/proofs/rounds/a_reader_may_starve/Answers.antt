use Rattle.spin_laws.proofs.Names.{◌∷◌, [], None, refl, Begin, Step, rw_machine}
use Rattle.spin_step_more.specs.declared.rw_calls.RwCall.TheVariants.{Read, Write, Release}
use Rattle.spin_step_more.specs.declared.rw_calls.RwPoint.TheVariants.{First}
use Rattle.spin_laws.proofs.Around.{starves}
use Rattle.spin_laws.proofs.rounds.a_reader_may_starve.Goals as goal

pub returns : goal.returns
returns g c = λ object.
    -- party 0 looks while the other party writes
    starves (rw_machine object.value object.cap) 2 ((0, Begin Read) ∷ []) _ refl (1, Begin Write)
    ((1, Step) ∷ (0, Step) ∷ (1, Begin Release) ∷ (1, Step) ∷ []) Read First None refl (refl, refl, refl)
