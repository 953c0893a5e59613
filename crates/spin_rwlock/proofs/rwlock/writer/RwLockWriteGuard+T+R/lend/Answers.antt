use Rattle.std.proofs.Common.{sym, subst}
use Rattle.spin_session.specs.Turns.{spot_of}
use Rattle.spin_rwlock.specs.Rw.{downgrade_to}
use Rattle.spin_rwlock.specs.RwPasses.{Unlocks}
use Rattle.spin_rwlock.proofs.rwlock.writer.RwLockWriteGuard+T+R.lend.Goals as goal

pub returns-clause-made : goal.returns-clause-made
returns-clause-made g c holds =
    subst (λ s. Unlocks (downgrade_to g.K.Kind.hold) c.args.self (spot_of s)) (sym c.lent.ensures.same) (rw (c.downgrade_to-call.ensures, c.hold.ensures) at c.leave.ensures.made holds)
