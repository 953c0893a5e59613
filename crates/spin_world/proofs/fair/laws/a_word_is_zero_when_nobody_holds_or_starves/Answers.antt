use Rattle.spin_world_core.proofs.Reached.{numbers_are, seen}
use Rattle.spin_world.proofs.Fairness.{zero_when_free}
use Rattle.spin_world.proofs.FairOwed.{fair_facts}
use Rattle.spin_world.proofs.fair.laws.a_word_is_zero_when_nobody_holds_or_starves.Goals as goal

pub returns : goal.returns
returns g c = λ fair n past. let f = fair_facts fair.value fair.cap fair.patience in
    zero_when_free _ (seen f n past).plain (numbers_are f n past)
