use Rattle.spin_world_core.proofs.Lawful.{laws_of}
use Rattle.spin_world.proofs.TicketOwed.{ticket_facts}
use Rattle.spin_world.proofs.ticket.TicketObject.laws.Goals as goal

pub returns : goal.returns
returns g c = λ t. laws_of (ticket_facts t.value t.first)
