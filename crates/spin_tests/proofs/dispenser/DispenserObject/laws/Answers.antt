use Rattle.spin_world_core.proofs.Lawful.{laws_of}
use Rattle.spin_tests.proofs.Dispensing.{dispenser_facts}
use Rattle.spin_tests.proofs.dispenser.DispenserObject.laws.Goals as goal

pub returns : goal.returns
returns c d = laws_of (dispenser_facts d.cap)
