use Rattle.spin_world.proofs.Closures.{a_later_closure_may_run}
use Rattle.spin_world.proofs.once.laws.a_later_closure_may_run.Goals as goal

pub returns : goal.returns
returns g c = λ object n past. a_later_closure_may_run object.value n past
