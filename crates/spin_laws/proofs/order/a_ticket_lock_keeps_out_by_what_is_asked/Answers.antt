use Rattle.spin_laws.proofs.KeptOut.{ticket_asks}
use Rattle.spin_laws.proofs.order.a_ticket_lock_keeps_out_by_what_is_asked.Goals as goal

pub returns : goal.returns
returns g c = λ object n past. ticket_asks object.value object.first n past
