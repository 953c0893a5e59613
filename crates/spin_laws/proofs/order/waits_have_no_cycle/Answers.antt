use Rattle.spin_laws.proofs.Waits.{no_cycle}
use Rattle.spin_laws.proofs.order.waits_have_no_cycle.Goals as goal

pub returns : goal.returns
returns g c = λ rank holds waits orders. no_cycle rank holds waits orders
