use Rattle.spin_world.proofs.Standing.{zero_when_free}
use Rattle.spin_world.proofs.rw.laws.a_word_is_zero_when_nobody_holds.Goals as goal

pub returns : goal.returns
returns g c = λ rw n past. zero_when_free rw.value rw.cap n past
