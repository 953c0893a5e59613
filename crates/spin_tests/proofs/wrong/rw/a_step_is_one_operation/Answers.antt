use Rattle.std.proofs.Common.{None, refl, arith}
use Rattle.spin_step.specs.Plain.{reading, weight}
use Rattle.spin_step_more.specs.declared.rw_calls.RwCall.TheVariants.{TryRead}
use Rattle.spin_step_more.specs.declared.rw_calls.RwPoint.TheVariants.{First}
use Rattle.spin_world_core.proofs.Otherwise.{no_operation}
use Rattle.spin_tests.proofs.wrong.rw.a_step_is_one_operation.Goals as goal

pub returns : goal.returns
returns g c = λ value steps. let is = steps.operates TryRead First None in no_operation is.0 is.1 (weight reading) 1 (omega arith) (is.2.words 0 None refl) (is.2.words (weight reading) None refl) (is.2.words 1 None refl)
