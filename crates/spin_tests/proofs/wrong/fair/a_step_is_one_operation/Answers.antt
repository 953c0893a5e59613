use Rattle.std.proofs.Common.{None, refl, arith}
use Rattle.spin_step_more.specs.declared.fair_calls.FairCall.TheVariants.{Starve}
use Rattle.spin_step_more.specs.declared.fair_calls.FairPoint.TheVariants.{Load}
use Rattle.spin_world_core.proofs.Otherwise.{no_operation}
use Rattle.spin_tests.proofs.wrong.fair.a_step_is_one_operation.Goals as goal

pub returns : goal.returns
returns g c = λ value steps. let is = steps.operates Starve Load None in no_operation is.0 is.1 2 4 (omega arith) (is.2.words 0 None refl) (is.2.words 2 None refl) (is.2.words 4 None refl)
