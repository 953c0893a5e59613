use Rattle.std.proofs.Common.{subst}
use Rattle.spin_mutex.specs.TicketPasses.{Grants, Lock}
use Rattle.spin_mutex.proofs.ticket.TicketMutexAcquire.acquire.Goals as goal

pub returns : goal.returns
returns g c = subst (λ new. Grants Lock new c.acquire.result) c.enter-session.ensures c.acquire.ensures
