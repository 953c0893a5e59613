use Rattle.std.specs.Prelude.{None}
use Rattle.std.proofs.Common.{refl}
use Rattle.spin_step.specs.declared.once_calls.OncePoint.TheVariants.{Look}
use Rattle.spin_tests.proofs.wrong.once.a_poll_answers_what_it_sees.Goals as goal

pub returns : goal.returns
returns g c = λ answers. cc ((answers.none 0 Look None refl refl))
