use Rattle.spin_rwlock.specs.Rw.{rw_tables}
use Rattle.spin_session.proofs.Apart.{are_two}
use Rattle.spin_laws.proofs.beside.a_pass_of_a_rwlock_that_calls_after_another_is_another_party.Goals as goal

pub returns : goal.returns
returns g c = λ c d a b one one' other other'. are_two rw_tables c d a b one one' other other'
