use Rattle.spin_step.specs.declared.answer.Answer.TheVariants.{Done}
use Rattle.spin_step_more.specs.declared.rw_calls.RwCall.TheVariants.{Downgrade}
use Rattle.spin_session.specs.Turns.{spot_of}
use Rattle.spin_rwlock.proofs.rwlock.upgradable.SharedGuard+T+Upgrader+R.downgrade.Goals as goal

pub returns-clause-made : goal.returns-clause-made
returns-clause-made g c = rw c.into_session.ensures.same at (c.lent.ensures.lends c.make.ensures.last Downgrade Done (spot_of c.into_session.result) c.make.ensures.calls)
