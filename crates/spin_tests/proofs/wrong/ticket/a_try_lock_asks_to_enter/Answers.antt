use Rattle.std.specs.Prelude.{None}
use Rattle.spin_tests.proofs.wrong.ticket.a_try_lock_asks_to_enter.Goals as goal
use Rattle.std.proofs.Common.{ap}
use Rattle.spin_step.specs.Calls.{Asked}

pub returns : goal.returns
returns g c = λ value is. cc (ap (λ (what : Asked). what.tries) (is.try_lock None))
