use Rattle.std.proofs.Common.{refl}
use Rattle.std.proofs.lemmas.Bool.{false≢true}
use Rattle.spin_step.specs.Plain.{to_starve}
use Rattle.spin_tests.proofs.wrong.fair.a_starve_is_refused_at_the_cap.Goals as goal

pub returns : goal.returns
returns g c = λ value all. false≢true (all.1.1.1.1.0.tries_on to_starve refl refl)
