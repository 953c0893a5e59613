use Rattle.spin_step.specs.declared.answer.Answer.TheVariants.{Refused}
use Rattle.spin_step_more.specs.declared.rw_calls.RwCall.TheVariants.{TryUpgrade}
use Rattle.spin_session.specs.Turns.{spot_of}
use Rattle.spin_rwlock.proofs.rwlock.upgradable.SharedGuard+T+Upgrader+R.try_upgrade.Goals as goal

pub returns-in-Ok-clause-granted : goal.returns-in-Ok-clause-granted
returns-in-Ok-clause-granted g c = let made = c.in-Ok.ensures.granted in
    rw c.into_session.ensures.same at (c.written.ensures.grants made.1 TryUpgrade (spot_of c.into_session.result) made.2)

pub returns-in-Err-clause-refused : goal.returns-in-Err-clause-refused
returns-in-Err-clause-refused g c = let made = c.in-Err.ensures.refused in
    rw c.into_session.ensures.same at (c.lent.ensures.lends made.1 TryUpgrade Refused (spot_of c.into_session.result) made.2)
