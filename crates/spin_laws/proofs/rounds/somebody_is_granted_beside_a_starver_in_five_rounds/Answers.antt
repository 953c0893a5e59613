use Rattle.spin_laws.proofs.Fair.{locks_in_five}
use Rattle.spin_laws.proofs.rounds.somebody_is_granted_beside_a_starver_in_five_rounds.Goals as goal

pub returns : goal.returns
returns g c = λ object n past rounds. locks_in_five object.value object.cap object.patience n past rounds
