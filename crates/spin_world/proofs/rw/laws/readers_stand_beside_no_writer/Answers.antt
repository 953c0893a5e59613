use Rattle.spin_world.proofs.Standing.{stand_together}
use Rattle.spin_world.proofs.rw.laws.readers_stand_beside_no_writer.Goals as goal

pub returns : goal.returns
returns g c = λ rw n past. stand_together rw.value rw.cap n past
