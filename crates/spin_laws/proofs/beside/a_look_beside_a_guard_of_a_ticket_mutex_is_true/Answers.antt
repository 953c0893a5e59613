use Rattle.std.proofs.Common.{true, refl, arith}
use Rattle.spin_mutex.specs.Queue.{ticket_tables}
use Rattle.spin_step.specs.declared.ticket_calls.TicketCall.TheVariants.{IsLocked}
use Rattle.spin_world.proofs.TicketOwed.{ticket_facts}
use Rattle.spin_laws.proofs.Holding.{looks_so}
use Rattle.spin_laws.proofs.beside.a_look_beside_a_guard_of_a_ticket_mutex_is_true.Goals as goal

pub returns : goal.returns
returns g c = looks_so ticket_tables (λ o. ticket_facts o.value o.start) (λ call. true) IsLocked (λ o call is w v l h after row next. grind (arith, row, next)) (λ o held h. refl)
