use Rattle.spin_world.proofs.FlagOwed.{flag_facts}
use Rattle.spin_laws.proofs.Counts.{keeps_limits}
use Rattle.spin_laws.proofs.limits.a_call_of_a_spin_mutex_keeps_its_limit.Goals as goal

pub returns : goal.returns
returns g c = λ opening. keeps_limits (flag_facts opening)
