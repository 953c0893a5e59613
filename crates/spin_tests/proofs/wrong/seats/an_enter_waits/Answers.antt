use Rattle.std.proofs.Common.{None, ap}
use Rattle.spin_tests.proofs.wrong.seats.an_enter_waits.Goals as goal
use Rattle.std.proofs.lemmas.Bool.{false≢true}
use Rattle.spin_step.specs.Calls.{Asked}

pub returns : goal.returns
returns g is = false≢true (ap (λ (what : Asked). what.waits) (is.enter None))
