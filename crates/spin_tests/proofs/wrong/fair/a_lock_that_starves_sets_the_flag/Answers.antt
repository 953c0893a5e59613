use Rattle.std.proofs.Common.{refl}
use Rattle.spin_step.specs.Plain.{to_lock_starving}
use Rattle.spin_tests.proofs.wrong.fair.a_lock_that_starves_sets_the_flag.Goals as goal

pub returns : goal.returns
returns g c = λ value all. absurd (cc ((all.1.1.1.1.1.1.1.1.1.1.0.due to_lock_starving refl).0 refl refl))
