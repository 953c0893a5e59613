use Rattle.spin_laws.proofs.Once.{somebody_runs}
use Rattle.spin_laws.proofs.rounds.a_running_closure_has_its_party.Goals as goal

pub returns : goal.returns
returns g c = λ object n past. somebody_runs object.value n past
