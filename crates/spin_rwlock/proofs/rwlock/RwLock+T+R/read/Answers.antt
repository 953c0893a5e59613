use Rattle.std.proofs.Common.{subst}
use Rattle.spin_step.specs.declared.answer.Answer.TheVariants.{Granted}
use Rattle.spin_step_more.specs.declared.rw_calls.RwCall.TheVariants.{Read}
use Rattle.spin_rwlock.specs.RwPasses.{Lends}
use Rattle.spin_rwlock.proofs.rwlock.RwLock+T+R.read.Goals as goal

pub returns : goal.returns
returns g c = subst (λ new. Lends Read Granted new c.lend.result) c.enter.ensures c.lend.ensures
