-- A ticket enters when it is served. A try that finds the next number changed, or none left, is refused.
use Rattle.std.proofs.Common.{arith, ne_eqb}
use Rattle.spin_step.proofs.ticket_calls.TicketTableStepsTicketCallTicketPoint.next.Goals.{else-found-next-2-via-then-found-next-2+else-next-lt18446744073709551615-3, else-found-next-2-via-else-found-next-2}
use Rattle.spin_step.proofs.ticket_calls.TicketTableStepsTicketCallTicketPoint.next.Goals as goal

pub returns-then-is_turn : goal.returns-then-is_turn
returns-then-is_turn g c value = grind (arith, c.in-Await.is, c.is_turn.ensures.exact, c.if-is_turn.true)

pub returns-else-found-next-2 : goal.returns-else-found-next-2
returns-else-found-next-2 g c value = elim c.else-found-next-2.branch [
  | else-found-next-2-via-then-found-next-2+else-next-lt18446744073709551615-3 w ↦ grind (arith, c.in-TryTake.is, w)
  | else-found-next-2-via-else-found-next-2 w ↦ grind (arith, c.in-TryTake.is, ne_eqb c.args.found c.in-TryTake.next w.if-found-next-2.false)
]
