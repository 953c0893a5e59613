use Rattle.spin_rwlock.specs.Rw.{views}
use Rattle.spin_rwlock.proofs.Standing.{readers_or_one_writer}
use Rattle.spin_rwlock.proofs.laws.the_parties_of_a_rwlock_read_or_one_writes.Goals as goal

pub returns : goal.returns
returns g c = λ opening word trace parties is. readers_or_one_writer word (views parties) is.1.0
