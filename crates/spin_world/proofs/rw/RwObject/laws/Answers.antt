use Rattle.spin_world_core.proofs.Lawful.{laws_of}
use Rattle.spin_world.proofs.RwOwed.{rw_facts}
use Rattle.spin_world.proofs.rw.RwObject.laws.Goals as goal

pub returns : goal.returns
returns g c = λ r. laws_of (rw_facts r.value r.cap)
