use Rattle.spin_world_core.proofs.Joined.{runs_are_one}
use Rattle.spin_world_core.proofs.laws.runs_are_one.Goals as goal

pub returns : goal.returns
returns g c = λ object state runs. runs_are_one (g.O.Object.machine object) state runs (c.laws.ensures object)
