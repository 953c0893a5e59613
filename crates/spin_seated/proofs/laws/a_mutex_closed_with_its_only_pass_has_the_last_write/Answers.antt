use Rattle.spin_seated.proofs.Closing.{alone}
use Rattle.spin_seated.proofs.laws.a_mutex_closed_with_its_only_pass_has_the_last_write.Goals as goal

pub returns : goal.returns
returns c = alone
