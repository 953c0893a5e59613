use Rattle.spin_mutex.proofs.ticket.TicketMutex.try_lock.Goals as goal

pub returns-in-Ok : goal.returns-in-Ok
returns-in-Ok g c = rw (c.pass.ensures.new, c.in-Ok.is) at c.try_lock.ensures.granted
