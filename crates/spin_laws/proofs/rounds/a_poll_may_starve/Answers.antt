use Rattle.spin_laws.proofs.Names.{◌∷◌, [], None, refl, sym, subst, Begin, Step, MayStarve, once_machine}
use Rattle.spin_step.specs.Asks.{polls}
use Rattle.spin_step.specs.declared.once_calls.OnceCall.TheVariants.{Poll, TryCallOnceErr}
use Rattle.spin_step.specs.declared.once_calls.OncePoint.TheVariants.{Look}
use Rattle.spin_laws.proofs.Around.{starves}
use Rattle.spin_laws.proofs.rounds.a_poll_may_starve.Goals as goal

pub returns : goal.returns
returns g c = λ object none.
    -- a closure runs whenever party 0 looks
    subst (λ given. MayStarve (once_machine given) 2 polls) (sym none) (starves (once_machine None) 2 ((0, Begin Poll) ∷ []) _ refl
    (1, Begin TryCallOnceErr) ((1, Step) ∷ (1, Step) ∷ (0, Step) ∷ (1, Step) ∷ []) Poll Look None refl (refl, refl, refl))
