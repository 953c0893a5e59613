use Rattle.std.proofs.Common.{None, refl, arith}
use Rattle.spin_seats.specs.declared.calls.SeatsCall.TheVariants as call
use Rattle.spin_seats.specs.declared.calls.SeatsPoint.TheVariants.{First}
use Rattle.spin_world_core.proofs.Otherwise.{no_operation}
use Rattle.spin_tests.proofs.wrong.seats.a_step_is_one_operation.Goals as goal

pub returns : goal.returns
returns g steps = let is = steps.operates call.TryEnter First None in no_operation is.0 is.1 1 2 (omega arith) (is.2.words 0 None refl) (is.2.words 1 None refl) (is.2.words 2 None refl)
