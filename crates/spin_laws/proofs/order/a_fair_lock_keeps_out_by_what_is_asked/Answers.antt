use Rattle.spin_laws.proofs.KeptOut.{fair_asks}
use Rattle.spin_laws.proofs.order.a_fair_lock_keeps_out_by_what_is_asked.Goals as goal

pub returns : goal.returns
returns g c = λ object n past. fair_asks object.value object.cap object.patience n past
