use Rattle.std.proofs.Common.{arith}
use Rattle.spin_step.proofs.Schedules.{after-append}
use Rattle.spin_world_core.proofs.Schedules.{events_of-append}
use Rattle.spin_world_core.proofs.laws.two_runs_are_one.Goals as goal

pub returns : goal.returns
returns g c = λ object state first second. grind (arith, after-append, events_of-append)
