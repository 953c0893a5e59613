use Rattle.spin_laws.proofs.Passed.{may_be_passed_over}
use Rattle.spin_laws.proofs.rounds.a_lock_may_be_passed_over.Goals as goal

pub returns : goal.returns
returns g c = λ t. may_be_passed_over t.value t.first
