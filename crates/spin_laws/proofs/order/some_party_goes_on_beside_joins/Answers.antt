use Rattle.spin_laws.proofs.Joins.{no_deadlock_of_joins}
use Rattle.spin_laws.proofs.order.some_party_goes_on_beside_joins.Goals as goal

pub returns : goal.returns
returns c = λ n lock waits awaits. no_deadlock_of_joins n lock waits awaits
