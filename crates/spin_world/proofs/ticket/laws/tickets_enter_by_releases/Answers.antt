use Rattle.spin_world.proofs.Queues.{in_turn}
use Rattle.spin_world.proofs.ticket.laws.tickets_enter_by_releases.Goals as goal

pub returns : goal.returns
returns g c = λ t n past further. in_turn t.value t.first n past further
