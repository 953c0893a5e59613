use Rattle.std.proofs.Common.{subst}
use Rattle.spin_step_more.specs.declared.rw_calls.RwCall.TheVariants.{Write}
use Rattle.spin_rwlock.specs.RwPasses.{Grants}
use Rattle.spin_rwlock.proofs.rwlock.pass.Pass.write.Goals as goal

pub returns : goal.returns
returns g c = subst (λ from. Grants Write from c.grant.result) c.into_session.ensures.0 c.grant.ensures
