use Rattle.std.proofs.Common.{ℕ, ◌+◌, ◌%◌, ◌^◌, None, inl, refl}
use Rattle.spin_core.specs.Cell.{by_first}
use Rattle.spin_event.specs.declared.calls.EventCall.TheVariants.{NotifyAll}
use Rattle.spin_event.specs.Threads.{Rings}
use Rattle.spin_event.proofs.Threads.{rings, fresh, after_step}
use Rattle.spin_event.proofs.steps.Event.ring_for_all.Goals as goal

pub add-permit-requires : goal.add-permit-requires
add-permit-requires c = (inl c.nothing.ensures, fresh c.enter.result.key c.enter.result.view (by_first (λ n. (n + 1) % 2 ^ 64)) (Rings NotifyAll None) c.enter.ensures.fresh.0 (rings c.enter.result.key NotifyAll refl))

pub returns : goal.returns
returns c = after_step _ _ _ (Rings NotifyAll None) c.add-permit.result.0 (λ log es v. (n : ℕ) × Rings NotifyAll None log es n v) c.add-permit.result.1.view (λ log es v so. (c.add-permit.result.0, so)) c.add-permit.ensures.moved
