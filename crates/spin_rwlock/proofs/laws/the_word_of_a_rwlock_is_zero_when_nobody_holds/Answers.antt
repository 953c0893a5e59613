use Rattle.spin_rwlock.specs.Rw.{views}
use Rattle.spin_rwlock.proofs.Standing.{zero_when_free}
use Rattle.spin_rwlock.proofs.laws.the_word_of_a_rwlock_is_zero_when_nobody_holds.Goals as goal

pub returns : goal.returns
returns g c = λ opening word trace parties is. zero_when_free word (views parties) is.1.0
