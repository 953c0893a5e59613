use Rattle.std.proofs.Common.{subst}
use Rattle.spin_event.specs.Threads.{Looks}
use Rattle.spin_event.proofs.steps.Rung.wake_one.Goals as goal

pub returns-then-looks : goal.returns-then-looks
returns-then-looks c = let (v, log, es, n, so, a, b) = c.looks.ensures in (v, log, es, n, subst (λ o. Looks o log es n v) c.self.view_is so)

pub returns-else-looks : goal.returns-else-looks
returns-else-looks c = let (v, log, es, n, so, a, b) = c.looks.ensures in (v, log, es, n, subst (λ o. Looks o log es n v) c.self.view_is so)
