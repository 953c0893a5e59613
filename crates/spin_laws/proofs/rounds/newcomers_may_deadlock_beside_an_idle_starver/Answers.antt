use Rattle.spin_laws.proofs.Names.{refl, fair_machine}
use Rattle.spin_laws.specs.Starving.{grants_or_weak}
use Rattle.spin_laws.proofs.Starving.{forever}
use Rattle.spin_laws.proofs.rounds.newcomers_may_deadlock_beside_an_idle_starver.Goals as goal

pub returns : goal.returns
returns g c = λ object.
    let m = fair_machine object.value object.cap object.patience in forever object.value object.cap object.patience (λ p. grants_or_weak m) refl
