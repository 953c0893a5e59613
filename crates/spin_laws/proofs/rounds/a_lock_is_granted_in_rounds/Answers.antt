use Rattle.spin_laws.proofs.Ticket.{locks_in_rounds}
use Rattle.spin_laws.proofs.rounds.a_lock_is_granted_in_rounds.Goals as goal

pub returns : goal.returns
returns g c = λ object n past rounds. locks_in_rounds object.value object.first n past rounds
