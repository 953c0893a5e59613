use Rattle.spin_laws.proofs.Passed.{lock_starves}
use Rattle.spin_laws.proofs.rounds.a_lock_without_a_ticket_may_starve.Goals as goal

pub returns : goal.returns
returns g c = λ t. lock_starves t.value t.first
