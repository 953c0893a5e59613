use Rattle.spin_laws.proofs.AnyLocks.{free}
use Rattle.spin_laws.proofs.order.locks_in_order_are_free_of_deadlock.Goals as goal

pub returns : goal.returns
returns c = λ n ranks lock past at tells orders. free n ranks lock past at tells orders
