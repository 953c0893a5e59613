use Rattle.spin_laws.proofs.RwFree.{grants_somebody}
use Rattle.spin_laws.proofs.rounds.somebody_is_granted_in_the_rounds_of_the_holders.Goals as goal

pub returns : goal.returns
returns g c = λ object n past rounds some. grants_somebody object.value object.cap some n past rounds
