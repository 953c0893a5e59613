use Rattle.std.proofs.Common.{refl}
use Rattle.std.proofs.lemmas.Bool.{false≢true}
use Rattle.spin_step.specs.Plain.{to_lock_starving}
use Rattle.spin_tests.proofs.wrong.fair.a_starver_looks_until_the_flag_is_clear.Goals as goal

pub returns : goal.returns
returns g c = λ value all. false≢true ((all.1.1.1.1.1.1.1.0.due to_lock_starving refl).1 refl)
