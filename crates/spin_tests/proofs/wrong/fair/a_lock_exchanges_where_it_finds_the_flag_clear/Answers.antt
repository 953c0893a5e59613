use Rattle.std.proofs.Common.{refl}
use Rattle.spin_step.specs.Plain.{to_lock_unregistered}
use Rattle.spin_tests.proofs.wrong.fair.a_lock_exchanges_where_it_finds_the_flag_clear.Goals as goal

pub returns : goal.returns
returns g c = λ value all. absurd (cc ((all.1.1.1.1.1.1.1.1.1.1.1.1.0.due to_lock_unregistered refl).0 refl refl))
