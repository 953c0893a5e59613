use Rattle.std.proofs.Common.{refl}
use Rattle.spin_flag.specs.Flag.{words_of}
use Rattle.spin_world.proofs.FlagOwed.{flag_facts}
use Rattle.spin_laws.proofs.Between.{between_strong}
use Rattle.spin_laws.proofs.laws.between_any_two_steps_of_a_spin_mutex.Goals as goal

pub returns : goal.returns
returns g c = λ opening word trace parties is. between_strong (λ view. view) words_of (flag_facts opening.value) refl trace.entries (word, trace.word) parties is.2
