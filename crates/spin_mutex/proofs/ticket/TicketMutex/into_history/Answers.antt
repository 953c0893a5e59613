use Rattle.spin_session.specs.Meaning.{with_second}
use Rattle.spin_session.proofs.Ending.{ends}
use Rattle.spin_mutex.specs.Queue.{ticket_meaning, ticket_tables}
use Rattle.spin_mutex.proofs.ticket.TicketMutex.into_history.Goals as goal

pub returns : goal.returns
returns g c = let parts = c.into_parts-value in let end = parts.result in
    ends ticket_tables ticket_meaning with_second c.args.self.cell end.0 end.1 end.2 parts.ensures
