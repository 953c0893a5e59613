use Rattle.spin_laws.proofs.Names.{fair_machine}
use Rattle.spin_laws.specs.Fair.{WaitsStarving, grants_lock}
use Rattle.spin_laws.proofs.Endless.{at_last}
use Rattle.spin_laws.proofs.Fair.{locks_in_five}
use Rattle.spin_laws.proofs.rounds.starvers_are_free_of_deadlock.Goals as goal

pub returns : goal.returns
returns g c = λ object n past. let m = fair_machine object.value object.cap object.patience in
    at_last m (WaitsStarving m) 5 (λ p. grants_lock m) n past (locks_in_five object.value object.cap object.patience n past)
