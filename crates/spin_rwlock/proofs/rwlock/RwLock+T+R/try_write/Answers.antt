use Rattle.std.proofs.Common.{subst}
use Rattle.spin_step_more.specs.declared.rw_calls.RwCall.TheVariants.{TryWrite}
use Rattle.spin_rwlock.specs.RwPasses.{Grants}
use Rattle.spin_rwlock.proofs.rwlock.RwLock+T+R.try_write.Goals as goal

pub returns-in-Ok : goal.returns-in-Ok
returns-in-Ok g c = subst (λ new. Grants TryWrite new c.in-Ok.guard) c.pass.ensures.new c.in-Ok.ensures.granted
