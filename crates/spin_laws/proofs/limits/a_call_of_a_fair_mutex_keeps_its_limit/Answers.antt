use Rattle.spin_fair.specs.Fair.{patience}
use Rattle.spin_step_more.specs.Starvers.{most_starvers}
use Rattle.spin_world.proofs.FairOwed.{fair_facts}
use Rattle.spin_laws.proofs.Counts.{keeps_limits}
use Rattle.spin_laws.proofs.limits.a_call_of_a_fair_mutex_keeps_its_limit.Goals as goal

pub returns : goal.returns
returns g c = λ opening. keeps_limits (fair_facts opening most_starvers patience)
