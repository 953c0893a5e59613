use Rattle.spin_laws.proofs.Onces.{gave_in}
use Rattle.spin_laws.proofs.answers.there_was_a_value_as_a_once_gave_it.Goals as goal

pub returns : goal.returns
returns g = λ call given. gave_in given call
