use Rattle.spin_laws.proofs.InOrder.{never_stuck_in_order}
use Rattle.spin_laws.proofs.order.a_text_in_order_is_never_stuck.Goals as goal

pub returns : goal.returns
returns c = λ n locks lines text. never_stuck_in_order n locks lines text
