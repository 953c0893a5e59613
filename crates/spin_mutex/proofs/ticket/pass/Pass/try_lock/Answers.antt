use Rattle.spin_mutex.proofs.ticket.pass.Pass.try_lock.Goals as goal

pub returns-in-Ok-clause-granted : goal.returns-in-Ok-clause-granted
returns-in-Ok-clause-granted g c = rw (← c.self.view_is) (rw c.in-Ok.is at c.try_to_acquire.ensures.granted)

pub returns-in-Err-clause-refused : goal.returns-in-Err-clause-refused
returns-in-Err-clause-refused g c = rw (← c.self.view_is) (rw c.in-Err.is at c.try_to_acquire.ensures.refused).1
