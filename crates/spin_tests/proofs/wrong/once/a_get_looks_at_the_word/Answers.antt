use Rattle.std.proofs.Common.{Some, None, ap}
use Rattle.spin_step.specs.declared.once_calls.OnceCall.TheVariants.{Get}
use Rattle.spin_step.specs.declared.once_calls.OncePoint.TheVariants.{Look}
use Rattle.spin_tests.proofs.wrong.once.a_get_looks_at_the_word.Goals as goal

pub returns : goal.returns
returns g c = λ v looks. cc (ap (λ st. st.next) (looks 0 (Some v) None Get Look None (λ e. cc (e))))
