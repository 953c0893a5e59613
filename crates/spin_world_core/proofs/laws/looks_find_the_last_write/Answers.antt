use Rattle.spin_world_core.proofs.Users.{finds_last_written}
use Rattle.spin_world_core.proofs.laws.looks_find_the_last_write.Goals as goal

pub returns : goal.returns
returns g c = λ object n past. finds_last_written (g.O.Object.machine object) n past ((c.laws.ensures object).keeps n past)
