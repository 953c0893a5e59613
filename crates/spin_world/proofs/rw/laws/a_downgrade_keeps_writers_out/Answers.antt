use Rattle.spin_world.proofs.Standing.{downgrades}
use Rattle.spin_world.proofs.rw.laws.a_downgrade_keeps_writers_out.Goals as goal

pub returns : goal.returns
returns g c = λ rw n past. downgrades rw.value rw.cap n past
