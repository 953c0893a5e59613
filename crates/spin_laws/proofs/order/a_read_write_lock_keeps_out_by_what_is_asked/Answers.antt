use Rattle.spin_laws.proofs.KeptOut.{rw_asks}
use Rattle.spin_laws.proofs.order.a_read_write_lock_keeps_out_by_what_is_asked.Goals as goal

pub returns : goal.returns
returns g c = λ object n past. rw_asks object.value object.cap n past
