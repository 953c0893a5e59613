use Rattle.spin_laws.proofs.KeptOut.{seats_asks}
use Rattle.spin_laws.proofs.order.seats_keep_out_by_what_is_asked.Goals as goal

pub returns : goal.returns
returns c = λ object n past. seats_asks object.seats n past
