use Rattle.spin_laws.proofs.Starving.{seats_starve}
use Rattle.spin_laws.proofs.rounds.an_enter_may_starve.Goals as goal

pub returns : goal.returns
returns g = λ object. seats_starve object.seats
