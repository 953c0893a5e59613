use Rattle.std.proofs.Common.{refl}
use Rattle.std.proofs.lemmas.Bool.{false≢true}
use Rattle.spin_step.specs.Plain.{gets, to_read}
use Rattle.spin_tests.proofs.wrong.rw.a_wrong_guess_is_counted.Goals as goal

pub returns : goal.returns
returns g c = λ value all. false≢true (all.1.1.1.1.0.counted 0 (gets 1 to_read) refl refl)
