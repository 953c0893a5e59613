use Rattle.std.proofs.Common.{refl}
use Rattle.spin_run.proofs.Commands.{count_stops}
use Rattle.spin_run.proofs.run.command.run.Goals as goal

pub returns-in-Some-clause-fault : goal.returns-in-Some-clause-fault
returns-in-Some-clause-fault g c = count_stops _ _ _ _ _ _ c.write_count.result c.in-Some.ensures.some refl c.write_count.ensures.fault
