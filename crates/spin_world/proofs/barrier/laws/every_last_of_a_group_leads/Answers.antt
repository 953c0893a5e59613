use Rattle.spin_world.proofs.Groups.{in_groups}
use Rattle.spin_world.proofs.barrier.laws.every_last_of_a_group_leads.Goals as goal

pub returns : goal.returns
returns c = λ object parties past. in_groups object.n parties past
