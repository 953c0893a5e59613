use Rattle.spin_world.proofs.Granted.{granted_next}
use Rattle.spin_world.proofs.fair.laws.a_starver_with_the_flag_is_granted_next.Goals as goal

pub returns : goal.returns
returns g c = λ fair n past. granted_next fair.value fair.cap fair.patience n past
