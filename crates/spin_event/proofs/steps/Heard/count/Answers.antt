use Rattle.std.proofs.Common.{ℕ, ◌+◌, ◌%◌, ◌^◌, None, refl}
use Rattle.spin_core.specs.Cell.{by_second}
use Rattle.spin_event.specs.declared.calls.EventCall.TheVariants.{Wait}
use Rattle.spin_event.specs.declared.calls.EventPoint.TheVariants.{Park}
use Rattle.spin_step.specs.declared.place.Seat.TheVariants.{Calling}
use Rattle.spin_event.specs.Threads.{Counts}
use Rattle.spin_event.proofs.Threads.{counts, fresh, after_seat}
use Rattle.spin_event.proofs.steps.Heard.count.Goals as goal

pub counts-permit-requires : goal.counts-permit-requires
counts-permit-requires c = fresh c.enter.result.key c.enter.result.view (by_second (λ n. (n + 1) % 2 ^ 64)) (Counts c.args.self.heard None) c.enter.ensures.fresh.0 (counts c.enter.result.key c.args.self.heard)

pub invariant_of-result : goal.invariant_of-result
invariant_of-result c = after_seat (λ log es v. (n : ℕ) × Counts c.args.self.heard None log es n v) (Calling (Wait c.args.self.heard) (Park c.args.self.heard) None) c.counts-permit.result.view (λ log es v so. so.1.0) c.counts-permit.ensures

pub returns : goal.returns
returns c = (refl, c.counts-permit.ensures)
