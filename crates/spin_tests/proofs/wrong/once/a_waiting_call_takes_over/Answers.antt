use Rattle.std.proofs.Common.{refl, None, ⊎_elim}
use Rattle.spin_step.specs.declared.once_calls.OnceCall.TheVariants.{CallOnce}
use Rattle.spin_step.specs.declared.once_calls.OncePoint.TheVariants.{Await}
use Rattle.spin_tests.proofs.wrong.once.a_waiting_call_takes_over.Goals as goal

pub returns : goal.returns
returns g c = λ v again. ⊎_elim (λ now. absurd (cc (now.begun))) (λ later. absurd (cc (later.begun))) (again.begins 1 (CallOnce v) Await None refl refl refl)
