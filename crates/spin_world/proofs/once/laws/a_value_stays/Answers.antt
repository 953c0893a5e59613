use Rattle.spin_world.proofs.OneClosure.{a_value_stays}
use Rattle.spin_world.proofs.once.laws.a_value_stays.Goals as goal

pub returns : goal.returns
returns g c = λ object n past. a_value_stays object.value n past
