use Rattle.std.proofs.Common.{subst}
use Rattle.spin_step.specs.declared.answer.Answer.TheVariants.{Granted}
use Rattle.spin_step_more.specs.declared.rw_calls.RwCall.TheVariants.{Read}
use Rattle.spin_rwlock.specs.RwPasses.{Lends}
use Rattle.spin_rwlock.proofs.rwlock.pass.Pass.read.Goals as goal

pub returns : goal.returns
returns g c = subst (λ from. Lends Read Granted from c.lend.result) c.into_session.ensures.0 c.lend.ensures
