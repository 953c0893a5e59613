use Rattle.spin_world.proofs.OneClosure.{one_closure_runs_at_a_time}
use Rattle.spin_world.proofs.once.laws.one_closure_runs_at_a_time.Goals as goal

pub returns : goal.returns
returns g c = λ object n past. one_closure_runs_at_a_time object.value n past
