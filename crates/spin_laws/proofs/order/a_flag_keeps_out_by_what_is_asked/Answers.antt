use Rattle.spin_laws.proofs.KeptOut.{flag_asks}
use Rattle.spin_laws.proofs.order.a_flag_keeps_out_by_what_is_asked.Goals as goal

pub returns : goal.returns
returns g c = λ object n past. flag_asks object.value n past
