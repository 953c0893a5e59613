use Rattle.spin_laws.proofs.Names.{◌∷◌, [], None, refl, sym, subst, Begin, Step, MayStarve, once_machine}
use Rattle.spin_step.specs.Asks.{waits_for_value}
use Rattle.spin_step.specs.declared.once_calls.OnceCall.TheVariants.{Wait}
use Rattle.spin_step.specs.declared.once_calls.OncePoint.TheVariants.{Look}
use Rattle.spin_laws.proofs.Around.{starves}
use Rattle.spin_laws.proofs.rounds.a_wait_may_starve.Goals as goal

pub returns : goal.returns
returns g c = λ object none.
    -- nobody makes a value
    subst (λ given. MayStarve (once_machine given) 1 waits_for_value) (sym none) (starves (once_machine None) 1 ((0, Begin Wait) ∷ []) _ refl
    (0, Step) [] Wait Look None refl (refl, refl, refl))
