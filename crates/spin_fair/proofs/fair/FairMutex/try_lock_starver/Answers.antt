use Rattle.spin_fair.proofs.fair.FairMutex.try_lock_starver.Goals as goal

pub returns-in-Ok : goal.returns-in-Ok
returns-in-Ok g c = rw (c.pass.ensures.new, c.in-Ok.is) at c.try_lock_starver.ensures.granted
