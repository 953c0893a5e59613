use Rattle.std.proofs.Common.{refl}
use Rattle.spin_step.specs.Plain.{to_write}
use Rattle.spin_tests.proofs.wrong.flag.a_lock_begins_by_its_exchange.Goals as goal

pub returns : goal.returns
returns g c = λ value all. absurd (cc ((all.1.0.due to_write refl).0 refl refl))
