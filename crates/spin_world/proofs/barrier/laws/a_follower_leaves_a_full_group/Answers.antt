use Rattle.spin_world.proofs.Groups.{followers_leave}
use Rattle.spin_world.proofs.barrier.laws.a_follower_leaves_a_full_group.Goals as goal

pub returns : goal.returns
returns c = λ object parties past. followers_leave object.n parties past
