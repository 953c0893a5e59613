use Rattle.spin_mutex.proofs.TicketQueue.{plain_queue}
use Rattle.spin_mutex.specs.Queue.{views}
use Rattle.spin_mutex.proofs.laws.the_words_of_a_ticket_mutex_are_its_queue.Goals as goal

pub returns : goal.returns
returns g c = λ key next trace parties is. (is.1.0.0, plain_queue next trace.word (views parties) is.1.0)
