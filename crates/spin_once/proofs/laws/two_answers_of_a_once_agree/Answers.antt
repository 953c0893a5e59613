use Rattle.spin_once.proofs.Valued.{agree}
use Rattle.spin_once.proofs.laws.two_answers_of_a_once_agree.Goals as goal

pub returns : goal.returns
returns g c = agree
