use Rattle.spin_mutex.proofs.TicketQueue.{in_turn}
use Rattle.spin_mutex.specs.Queue.{views}
use Rattle.spin_mutex.proofs.laws.the_parties_of_a_ticket_mutex_enter_in_turn.Goals as goal

pub returns : goal.returns
returns g c = λ key next trace parties is. in_turn next trace.word (views parties) is.1.0
