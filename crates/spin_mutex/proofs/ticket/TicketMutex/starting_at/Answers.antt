use Rattle.std.proofs.Common.{[], refl, sym, ◌∙◌, subst, arith}
use Rattle.spin_core.specs.Cell.{MeetsRule}
use Rattle.spin_session.specs.Meaning.{ways_of}
use Rattle.spin_mutex.specs.Queue.{IsQueue, ticket_meaning}
use denote.Param.{param}
use Rattle.spin_step.specs.contracts.ticket_calls.TicketCall as call
use Rattle.spin_core.proofs.tie.Sends.{entry_over, sends_word}
use Rattle.spin_core.proofs.tie.Values.{opens_last}
use Rattle.spin_mutex.proofs.TicketRefines.{starts}
use Rattle.spin_mutex.proofs.ticket.TicketMutex.starting_at.Goals as goal

pub new-cell-requires-clause-known : goal.new-cell-requires-clause-known
new-cell-requires-clause-known g c = (λ no. absurd no, (λ v e. absurd (grind (arith, e))), sends_word (entry_over call.the_row (param 0 g.row.T)))

pub new-cell-requires-clause-rule : goal.new-cell-requires-clause-rule
new-cell-requires-clause-rule g c = let t = c.new-trace in let o = c.starting_at-opening in
    ([], refl, subst (λ n. MeetsRule (IsQueue o.result) (ways_of ticket_meaning o.result) n t.result []) o.ensures.3 (starts o.result t.result (sym o.ensures.0) t.ensures.0 (t.ensures.1 ∙ sym o.ensures.3) (rw o.ensures.3 (omega (arith, c.ranges.first)))), (opens_last o.result t.result.entries c.args.value t.ensures.0 o.ensures.1, tt))
