use Rattle.spin_mutex.proofs.TicketRefines.{ticket_executes}
use Rattle.spin_mutex.proofs.ticket.rule.TicketRuleRuns.laws.Goals as goal

pub returns : goal.returns
returns g c = ticket_executes
