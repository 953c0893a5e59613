use Rattle.spin_mutex.proofs.ticket.pass.Pass.lock.Goals as goal

pub returns : goal.returns
returns g c = rw (← c.self.view_is) c.acquire.ensures
