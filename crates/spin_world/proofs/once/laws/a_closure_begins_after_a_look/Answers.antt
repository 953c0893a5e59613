use Rattle.spin_world.proofs.Closures.{looks_first}
use Rattle.spin_world.proofs.once.laws.a_closure_begins_after_a_look.Goals as goal

pub returns : goal.returns
returns g c = λ object n past. looks_first object.value n past
