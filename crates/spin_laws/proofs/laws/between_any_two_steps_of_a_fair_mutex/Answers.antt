use Rattle.std.proofs.Common.{refl}
use Rattle.spin_step_more.specs.Starvers.{most_starvers}
use Rattle.spin_fair.specs.Fair.{patience, words_of}
use Rattle.spin_world.proofs.FairOwed.{fair_facts}
use Rattle.spin_laws.proofs.Between.{between_strong}
use Rattle.spin_laws.proofs.laws.between_any_two_steps_of_a_fair_mutex.Goals as goal

pub returns : goal.returns
returns g c = λ opening word trace parties is. between_strong (λ view. view) words_of (fair_facts opening.value most_starvers patience) refl trace.entries (word, trace.word) parties is.2
