use Rattle.spin_tests.proofs.wrong.once.a_try_call_once_runs_its_closure.Goals as goal
use Rattle.std.proofs.Common.{ap, None}
use Rattle.std.proofs.lemmas.Bool.{false≢true}
use Rattle.spin_step.specs.Plain.{is_empty}
use Rattle.spin_step.specs.Calls.{Asked, own_steps, failed}

pub returns : goal.returns
returns g c = λ v is. false≢true (ap (λ (what : Asked). is_empty (own_steps (what.answers failed) 0)) (is.try_call_once_ok v None).0)
