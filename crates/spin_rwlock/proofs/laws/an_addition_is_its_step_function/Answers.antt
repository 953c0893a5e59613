use Rattle.spin_rwlock.specs.Rw.{views}
use Rattle.spin_rwlock.proofs.Standing.{goes_as_step, turns_as_step}
use Rattle.spin_rwlock.proofs.laws.an_addition_is_its_step_function.Goals as goal

pub returns-clause-release : goal.returns-clause-release
returns-clause-release g c = λ opening word trace parties p k rule at. goes_as_step word (views parties) p k rule.1.0 at

pub returns-clause-downgrade : goal.returns-clause-downgrade
returns-clause-downgrade g c = λ opening word trace parties p j k rule at may. turns_as_step word (views parties) p j k rule.1.0 at may
