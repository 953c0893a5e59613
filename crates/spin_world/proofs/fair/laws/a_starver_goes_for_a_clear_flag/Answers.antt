use Rattle.spin_world.proofs.Granted.{goes_for_flag}
use Rattle.spin_world.proofs.fair.laws.a_starver_goes_for_a_clear_flag.Goals as goal

pub returns : goal.returns
returns g c = λ fair n past. goes_for_flag fair.value fair.cap fair.patience n past
