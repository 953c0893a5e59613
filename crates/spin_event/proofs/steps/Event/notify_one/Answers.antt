use Rattle.std.proofs.Common.{ℕ, None, subst}
use Rattle.spin_event.specs.declared.calls.EventCall.TheVariants.{NotifyOne}
use Rattle.spin_event.specs.Threads.{Looks, Rings}
use Rattle.spin_event.proofs.Threads.{after_some}
use Rattle.spin_event.proofs.steps.Event.notify_one.Goals as goal

pub returns-then-looks : goal.returns-then-looks
returns-then-looks c = let (u, e, log, es, (n, rung)) = after_some (λ log es v. (n : ℕ) × Rings NotifyOne None log es n v) c.ring_for_one.result.view c.ring_for_one.ensures in
    let (v, log', es', m, so, a, b) = c.looks.ensures in (u, v, log, es, log', es', n, m, rung, subst (λ o. Looks o log' es' m v) e so)

pub returns-else-looks : goal.returns-else-looks
returns-else-looks c = let (u, e, log, es, (n, rung)) = after_some (λ log es v. (n : ℕ) × Rings NotifyOne None log es n v) c.ring_for_one.result.view c.ring_for_one.ensures in
    let (v, log', es', m, so, a, b) = c.looks.ensures in (u, v, log, es, log', es', n, m, rung, subst (λ o. Looks o log' es' m v) e so)
