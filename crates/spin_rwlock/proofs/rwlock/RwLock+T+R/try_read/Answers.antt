use Rattle.std.proofs.Common.{subst}
use Rattle.spin_step.specs.declared.answer.Answer.TheVariants.{Granted}
use Rattle.spin_step_more.specs.declared.rw_calls.RwCall.TheVariants.{TryRead}
use Rattle.spin_rwlock.specs.RwPasses.{Lends}
use Rattle.spin_rwlock.proofs.rwlock.RwLock+T+R.try_read.Goals as goal

pub returns-in-Ok : goal.returns-in-Ok
returns-in-Ok g c = subst (λ new. Lends TryRead Granted new c.in-Ok.guard) c.pass.ensures.new c.in-Ok.ensures.granted
