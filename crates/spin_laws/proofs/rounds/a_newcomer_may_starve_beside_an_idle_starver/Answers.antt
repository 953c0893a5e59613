use Rattle.spin_laws.proofs.Names.{refl, ends_or_weak}
use Rattle.spin_laws.proofs.Starving.{forever}
use Rattle.spin_laws.proofs.rounds.a_newcomer_may_starve_beside_an_idle_starver.Goals as goal

pub returns : goal.returns
returns g c = λ object. forever object.value object.cap object.patience ends_or_weak refl
