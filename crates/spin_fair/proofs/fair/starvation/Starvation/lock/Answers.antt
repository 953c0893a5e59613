use Rattle.std.proofs.Common.{refl}
use Rattle.spin_step.specs.declared.place.Hold.TheVariants.{Write}
use Rattle.spin_step_more.specs.declared.fair_calls.FairCall.TheVariants.{StarverLock}
use Rattle.spin_session.specs.Turns.{spot_of}
use Rattle.spin_session.proofs.Granted.{stands_writes}
use Rattle.spin_fair.specs.Fair.{fair_meaning}
use Rattle.spin_fair.proofs.fair.starvation.Starvation.lock.Goals as goal

pub guarded-requires-clause-writes : goal.guarded-requires-clause-writes
guarded-requires-clause-writes g c = stands_writes fair_meaning (spot_of c.wait_for.result) Write refl c.wait_for.ensures.stands

pub returns : goal.returns
returns g c = rw (← c.self.view_is) (c.guarded.ensures.grants StarverLock (spot_of c.self.inside.session) c.wait_for.ensures.calls)
