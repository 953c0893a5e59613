use Rattle.std.proofs.Common.{refl}
use Rattle.spin_step.specs.declared.place.Hold.TheVariants.{Write}
use Rattle.spin_step_more.specs.declared.fair_calls.FairCall.TheVariants.{StarverTryLock}
use Rattle.spin_session.specs.Turns.{spot_of}
use Rattle.spin_session.proofs.Granted.{stands_writes}
use Rattle.spin_fair.specs.Fair.{fair_meaning}
use Rattle.spin_fair.proofs.fair.starvation.Starvation.try_lock.Goals as goal

pub guarded-requires-clause-writes : goal.guarded-requires-clause-writes
guarded-requires-clause-writes g c = stands_writes fair_meaning (spot_of c.in-Ok.session) Write refl (rw c.in-Ok.is at c.attempt.ensures.granted).0

pub returns-in-Ok-clause-granted : goal.returns-in-Ok-clause-granted
returns-in-Ok-clause-granted g c = rw (← c.self.view_is) (c.guarded.ensures.grants StarverTryLock (spot_of c.self.inside.session) (rw c.in-Ok.is at c.attempt.ensures.granted).2)

pub returns-in-Err-clause-refused : goal.returns-in-Err-clause-refused
returns-in-Err-clause-refused g c = rw (← c.self.view_is) (rw c.in-Err.is at c.attempt.ensures.refused).2
