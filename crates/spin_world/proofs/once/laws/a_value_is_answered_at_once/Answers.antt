use Rattle.spin_world.proofs.OneClosure.{a_value_is_answered_at_once}
use Rattle.spin_world.proofs.once.laws.a_value_is_answered_at_once.Goals as goal

pub returns : goal.returns
returns g c = λ object n past. a_value_is_answered_at_once object.value n past
