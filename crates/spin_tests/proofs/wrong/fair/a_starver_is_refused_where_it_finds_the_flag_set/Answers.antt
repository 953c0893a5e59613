use Rattle.std.proofs.Common.{refl}
use Rattle.std.proofs.lemmas.Bool.{false≢true}
use Rattle.spin_step.specs.Plain.{to_lock_starving}
use Rattle.spin_tests.proofs.wrong.fair.a_starver_is_refused_where_it_finds_the_flag_set.Goals as goal

pub returns : goal.returns
returns g c = λ value all. false≢true (all.1.1.1.1.1.1.0.tries_on to_lock_starving refl refl)
