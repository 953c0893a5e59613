use Rattle.spin_seated.proofs.Closing.{both}
use Rattle.spin_seated.proofs.laws.a_mutex_closed_with_its_two_passes_has_the_last_write.Goals as goal

pub returns : goal.returns
returns c = both
