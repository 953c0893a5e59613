use Rattle.std.proofs.Common.{sym, subst}
use Rattle.spin_step.specs.declared.answer.Answer.TheVariants.{Granted}
use Rattle.spin_step_more.specs.declared.rw_calls.RwCall.TheVariants.{TryRead}
use Rattle.spin_session.specs.Turns.{spot_of}
use Rattle.spin_rwlock.specs.RwPasses.{Lends}
use Rattle.spin_rwlock.proofs.RwCalls.{peeks}
use Rattle.spin_rwlock.proofs.rwlock.RwLock+T+R.try_read_weak.Goals as goal

pub exchange_for-requires-clause-fuses : goal.exchange_for-requires-clause-fuses
exchange_for-requires-clause-fuses g c = peeks c.enter-2.result.permit.key.value c.in_three-counted.result.3 c.in_ok-next.next (sym c.in_ok-next.ensures.exact)

pub returns-in-Ok : goal.returns-in-Ok
returns-in-Ok g c = let made = c.in-Ok.ensures.granted in
    subst (λ new. Lends TryRead Granted new c.lent.result) c.enter-2.ensures (c.lent.ensures.lends made.1 TryRead Granted (spot_of c.enter-2.result) made.2)
