use Rattle.spin_event.proofs.First.{none_is_lost}
use Rattle.spin_event.proofs.laws.a_sleeper_is_awake_or_somebody_rings.Goals as goal

pub returns : goal.returns
returns c = none_is_lost
