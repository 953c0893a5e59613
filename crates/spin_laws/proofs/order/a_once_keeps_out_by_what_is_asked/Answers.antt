use Rattle.spin_laws.proofs.KeptOut.{once_asks}
use Rattle.spin_laws.proofs.order.a_once_keeps_out_by_what_is_asked.Goals as goal

pub returns : goal.returns
returns g c = λ object n past. once_asks object.value n past
