use Rattle.std.proofs.Common.{sym, subst, ◌∙◌}
use Rattle.spin_core.specs.declared.trace.Trace.{Trace}
use Rattle.spin_session.specs.Meaning.{with_second}
use Rattle.spin_session.proofs.Ending.{ends, settles}
use Rattle.spin_mutex.specs.Queue.{Made, ticket_meaning, ticket_tables}
use Rattle.spin_mutex.specs.TicketPasses.{Ends, Settles, opening}
use Rattle.spin_mutex.proofs.TicketRefines.{quiet}
use Rattle.spin_mutex.proofs.ticket.TicketMutex.try_into_history.Goals as goal

pub returns-then-next-serving-clause-settled : goal.returns-then-next-serving-clause-settled
returns-then-next-serving-clause-settled g c = let parts = c.into_parts-next in let end = parts.result in let told = c.told-serving in
    subst (λ h. Settles (opening c.args.self) (end.1, h)) (sym told.ensures.1)
    (settles ticket_tables ticket_meaning with_second c.args.self.cell end.0 end.1 end.2 (quiet end.0 end.2.word (c.if-next-serving.true ∙ told.ensures.0)) parts.ensures)

pub returns-else-next-serving-clause-held : goal.returns-else-next-serving-clause-held
returns-else-next-serving-clause-held g c = let parts = c.into_parts-next in let end = parts.result in let told = c.told-serving in
    subst (λ h. Ends (opening c.args.self) (end.1, h)) (sym told.ensures.1) (ends ticket_tables ticket_meaning with_second c.args.self.cell end.0 end.1 end.2 parts.ensures)
