use Rattle.spin_laws.proofs.Names.{◌∷◌, [], None, refl, sym, subst, Begin, Step, MayStarve, once_machine}
use Rattle.spin_step.specs.Asks.{initializes}
use Rattle.spin_step.specs.declared.once_calls.OnceCall.TheVariants.{CallOnce, TryCallOnceErr}
use Rattle.spin_step.specs.declared.once_calls.OncePoint.TheVariants.{TryBegin}
use Rattle.spin_laws.proofs.Around.{starves}
use Rattle.spin_laws.proofs.rounds.a_call_with_a_closure_may_starve.Goals as goal

pub returns : goal.returns
returns g c = λ object v none.
    -- a closure runs whenever party 0 makes its exchange, and has failed when party 0 looks
    subst (λ given. MayStarve (once_machine given) 2 initializes) (sym none) (starves (once_machine None) 2 ((0, Begin (CallOnce v)) ∷ (0, Step) ∷ []) _ refl
    (1, Begin TryCallOnceErr) ((1, Step) ∷ (1, Step) ∷ (0, Step) ∷ (1, Step) ∷ (0, Step) ∷ []) (CallOnce v) TryBegin None refl (refl, refl, refl))
