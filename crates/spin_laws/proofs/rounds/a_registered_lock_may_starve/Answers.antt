use Rattle.spin_laws.proofs.Registered.{registered_starves}
use Rattle.spin_laws.proofs.rounds.a_registered_lock_may_starve.Goals as goal

pub returns : goal.returns
returns g c = λ object two. registered_starves object.value object.cap object.patience two
