use Rattle.spin_fair.proofs.fair.pass.Pass.starve.Goals as goal

pub returns-in-Ok-clause-granted : goal.returns-in-Ok-clause-granted
returns-in-Ok-clause-granted g c = rw (← c.self.view_is) (rw c.in-Ok.is at c.try_for.ensures.granted).2

pub returns-in-Err-clause-refused : goal.returns-in-Err-clause-refused
returns-in-Err-clause-refused g c = rw (← c.self.view_is) (rw c.in-Err.is at c.try_for.ensures.refused).1
