use Rattle.spin_world.proofs.Queues.{in_order}
use Rattle.spin_world.proofs.ticket.laws.tickets_stand_in_order.Goals as goal

pub returns : goal.returns
returns g c = λ t n past. in_order t.value t.first n past
