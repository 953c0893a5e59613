use Rattle.spin_world_core.proofs.Lawful.{laws_of}
use Rattle.spin_world.proofs.OnceOwed.{once_facts}
use Rattle.spin_world.proofs.once.OnceObjectObject.laws.Goals as goal

pub returns : goal.returns
returns g c = λ o. laws_of (once_facts o.value)
