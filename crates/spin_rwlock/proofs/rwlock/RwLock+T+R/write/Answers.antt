use Rattle.std.proofs.Common.{subst}
use Rattle.spin_step_more.specs.declared.rw_calls.RwCall.TheVariants.{Write}
use Rattle.spin_rwlock.specs.RwPasses.{Grants}
use Rattle.spin_rwlock.proofs.rwlock.RwLock+T+R.write.Goals as goal

pub returns : goal.returns
returns g c = subst (λ new. Grants Write new c.grant.result) c.enter.ensures c.grant.ensures
