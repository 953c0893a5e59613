use Rattle.std.proofs.Common.{[], inl, inr, refl}
use Rattle.spin_run.specs.declared.faults.Fault.TheVariants.{Usage, Memory}
use Rattle.spin_run.proofs.run.process.program_over_arguments.Goals as goal

pub returns-in-Ok-None-clause-fault : goal.returns-in-Ok-None-clause-fault
returns-in-Ok-None-clause-fault g c one = (Usage, [], c.report.ensures.status, inr (inl refl, refl, refl), c.report.ensures.told)

pub returns-in-Err-clause-fault : goal.returns-in-Err-clause-fault
returns-in-Err-clause-fault g c one = (Memory, [], c.report-in-Err.ensures.status, inr (inr refl, refl, refl), c.report-in-Err.ensures.told)

pub returns-in-Ok-clause-done : goal.returns-in-Ok-clause-done
returns-in-Ok-clause-done g c zero = (_, c.program.ensures.done zero)

pub returns-in-Ok-clause-fault : goal.returns-in-Ok-clause-fault
returns-in-Ok-clause-fault g c some =
    let stops = c.program.ensures.fault some in (stops.0, _, stops.1, inl stops.2, stops.3)

pub returns-clause-fault : goal.returns-clause-fault
returns-clause-fault g c one = (Memory, [], c.report-in-Err-texts.ensures.status, inr (inr refl, refl, refl), c.report-in-Err-texts.ensures.told)
