use Rattle.spin_world.proofs.TicketOwed.{ticket_facts}
use Rattle.spin_laws.proofs.Counts.{keeps_limits}
use Rattle.spin_laws.proofs.limits.a_call_of_a_ticket_mutex_keeps_its_limit.Goals as goal

pub returns : goal.returns
returns g c = λ key. keeps_limits (ticket_facts key.value key.start)
