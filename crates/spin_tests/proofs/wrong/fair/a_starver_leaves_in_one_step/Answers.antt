use Rattle.std.proofs.Common.{refl}
use Rattle.std.specs.Prelude.{Some}
use Rattle.spin_step.specs.declared.place.Hold.TheVariants.{Starver}
use Rattle.spin_step_more.specs.declared.fair_calls.FairCall.TheVariants.{StarverLock}
use Rattle.spin_step_more.specs.declared.fair_calls.FairPoint.TheVariants.{Unregister}
use Rattle.spin_tests.proofs.wrong.fair.a_starver_leaves_in_one_step.Goals as goal

pub returns : goal.returns
returns g c = λ value law. cc (law 0 StarverLock Unregister (Some Starver) refl refl)
