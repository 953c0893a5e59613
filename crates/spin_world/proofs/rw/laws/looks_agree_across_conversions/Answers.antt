use Rattle.spin_world.proofs.Standing.{looks_agree}
use Rattle.spin_world.proofs.rw.laws.looks_agree_across_conversions.Goals as goal

pub returns : goal.returns
returns g c = λ rw n past. looks_agree rw.value rw.cap n past
