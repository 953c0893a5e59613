use Rattle.spin_world.proofs.OneClosure.{a_later_get_agrees}
use Rattle.spin_world.proofs.once.laws.a_later_get_agrees.Goals as goal

pub returns : goal.returns
returns g c = λ object n past. a_later_get_agrees object.value n past
