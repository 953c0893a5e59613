use Rattle.spin_world_core.proofs.Lawful.{laws_of}
use Rattle.spin_world.proofs.BarrierOwed.{barrier_facts}
use Rattle.spin_world.proofs.barrier.BarrierObjectObject.laws.Goals as goal

pub returns : goal.returns
returns c = λ b. laws_of (barrier_facts b.n)
