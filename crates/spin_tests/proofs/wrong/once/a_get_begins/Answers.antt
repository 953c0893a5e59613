use Rattle.std.proofs.lemmas.Bool.{false≢true}
use Rattle.std.specs.Prelude.{None}
use Rattle.spin_step.specs.declared.once_calls.OnceCall.TheVariants.{Get}
use Rattle.spin_tests.proofs.wrong.once.a_get_begins.Goals as goal

pub returns : goal.returns
returns g c = λ steps. false≢true (steps.begins Get None)
