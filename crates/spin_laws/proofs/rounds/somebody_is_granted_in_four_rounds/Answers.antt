use Rattle.spin_laws.proofs.Flag.{locks_in_four}
use Rattle.spin_laws.proofs.rounds.somebody_is_granted_in_four_rounds.Goals as goal

pub returns : goal.returns
returns g c = λ object n past rounds. locks_in_four object.value n past rounds
