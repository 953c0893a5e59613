use Rattle.spin_world_core.proofs.Lawful.{laws_of}
use Rattle.spin_world.proofs.FlagOwed.{flag_facts}
use Rattle.spin_world.proofs.flag.FlagObject.laws.Goals as goal

pub returns : goal.returns
returns g c = λ f. laws_of (flag_facts f.value)
