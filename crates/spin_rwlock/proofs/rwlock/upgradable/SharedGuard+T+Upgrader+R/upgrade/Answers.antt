use Rattle.spin_step_more.specs.declared.rw_calls.RwCall.TheVariants.{Upgrade}
use Rattle.spin_session.specs.Turns.{spot_of}
use Rattle.spin_rwlock.proofs.rwlock.upgradable.SharedGuard+T+Upgrader+R.upgrade.Goals as goal

pub returns-clause-made : goal.returns-clause-made
returns-clause-made g c = let from = c.into_session-session in let w = c.wait_for.ensures in
    rw from.ensures.same at (c.written.ensures.grants w.last Upgrade (spot_of from.result) w.calls)
