use Rattle.spin_world.proofs.Tries.{by_two_loads}
use Rattle.spin_world.proofs.ticket.laws.a_try_finds_its_number_by_two_loads.Goals as goal

pub returns : goal.returns
returns g c = λ object n past. by_two_loads object.value object.first n past
