use Rattle.std.specs.Prelude.{None}
use Rattle.std.proofs.Common.{refl}
use Rattle.spin_step.specs.declared.once_calls.OnceCall.TheVariants.{TryCallOnceErr}
use Rattle.spin_step.specs.declared.once_calls.OncePoint.TheVariants.{Run}
use Rattle.spin_tests.proofs.wrong.once.a_failure_is_told_at_once.Goals as goal

pub returns : goal.returns
returns g c = λ runs. cc ((runs.ends 0 (record { call = TryCallOnceErr; point = Run; held = None; calls = refl; begun = refl })))
