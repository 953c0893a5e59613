use Rattle.std.proofs.Common.{refl}
use Rattle.std.proofs.lemmas.Bool.{false≢true}
use Rattle.spin_step.specs.Plain.{to_read}
use Rattle.spin_tests.proofs.wrong.rw.a_try_is_refused_where_it_finds_it_closed.Goals as goal

pub returns : goal.returns
returns g c = λ value all. false≢true (all.1.1.1.0.tries_on to_read refl refl)
