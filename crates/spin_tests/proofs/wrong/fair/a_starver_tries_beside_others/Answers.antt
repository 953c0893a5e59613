use Rattle.std.specs.Prelude.{None}
use Rattle.std.proofs.Common.{ap}
use Rattle.spin_step.specs.Calls.{Asked}
use Rattle.spin_tests.proofs.wrong.fair.a_starver_tries_beside_others.Goals as goal

pub returns-clause-asks : goal.returns-clause-asks
returns-clause-asks g c = λ value is. cc (ap (λ (what : Asked). what.tries) (is.starver_try_lock None))
