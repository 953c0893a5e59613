use Rattle.std.proofs.Common.{refl}
use Rattle.spin_step.specs.Plain.{to_upgrade_asked}
use Rattle.spin_tests.proofs.wrong.rw.an_upgrade_makes_its_exchange_again.Goals as goal

pub returns : goal.returns
returns g c = λ value all. absurd (cc ((all.1.1.1.1.1.1.0.due to_upgrade_asked refl).0 refl refl))
