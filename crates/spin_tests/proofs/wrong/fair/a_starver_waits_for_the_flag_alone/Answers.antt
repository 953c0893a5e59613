use Rattle.std.proofs.Common.{Some, None, refl, arith, ⊎_elim}
use Rattle.spin_step.specs.declared.place.Hold.TheVariants.{Starver}
use Rattle.spin_step_more.specs.declared.fair_calls.FairCall.TheVariants.{StarverLock}
use Rattle.spin_step_more.specs.declared.fair_calls.FairPoint.TheVariants.{Await}
use Rattle.spin_tests.proofs.wrong.fair.a_starver_waits_for_the_flag_alone.Goals as goal

pub returns : goal.returns
returns g c = λ value law.
    ⊎_elim (λ set. absurd (omega (arith, set))) (λ goes. grind (arith, goes.1, goes.2 4 None refl)) (law 1 StarverLock Await (Some Starver) refl refl refl refl)
