use Rattle.spin_rwlock.specs.Rw.{views}
use Rattle.spin_rwlock.proofs.Standing.{counts_parties}
use Rattle.spin_rwlock.proofs.laws.the_word_of_a_rwlock_counts_its_parties.Goals as goal

pub returns : goal.returns
returns g c = λ opening word trace parties is. counts_parties word (views parties) is.1.0
