use Rattle.spin_world_core.proofs.Lawful.{laws_of}
use Rattle.spin_world.proofs.FairOwed.{fair_facts}
use Rattle.spin_world.proofs.fair.FairObject.laws.Goals as goal

pub returns : goal.returns
returns g c = λ f. laws_of (fair_facts f.value f.cap f.patience)
