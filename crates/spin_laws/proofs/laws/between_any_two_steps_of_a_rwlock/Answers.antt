use Rattle.std.proofs.Common.{refl}
use Rattle.spin_step_more.specs.Readers.{reader_limit}
use Rattle.spin_rwlock.specs.Rw.{seat_of, words_of}
use Rattle.spin_world.proofs.RwOwed.{rw_facts}
use Rattle.spin_laws.proofs.Between.{between_strong}
use Rattle.spin_laws.proofs.laws.between_any_two_steps_of_a_rwlock.Goals as goal

pub returns : goal.returns
returns g c = λ opening word trace parties is. between_strong seat_of words_of (rw_facts opening.value reader_limit) refl trace.entries (word, trace.word) parties is.2
