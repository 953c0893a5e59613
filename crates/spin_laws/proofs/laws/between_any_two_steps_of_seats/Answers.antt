use Rattle.std.proofs.Common.{refl}
use Rattle.spin_seats.specs.Rule.{words_of}
use Rattle.spin_world_seats.proofs.Owed.{seats_facts}
use Rattle.spin_laws.proofs.Between.{between_strong}
use Rattle.spin_laws.proofs.laws.between_any_two_steps_of_seats.Goals as goal

pub returns : goal.returns
returns g = λ n word opening trace parties is. between_strong (λ seat. seat) words_of (seats_facts n) refl trace.entries (word, trace.word) parties is.2
