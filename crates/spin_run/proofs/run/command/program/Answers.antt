use Rattle.std.proofs.Common.{inl, inr}
use Rattle.spin_run.proofs.Commands.{told_usage}
use Rattle.spin_run.proofs.run.command.program.Goals as goal

pub returns-in-Ok-clause-usage : goal.returns-in-Ok-clause-usage
returns-in-Ok-clause-usage g c none =
    absurd (elim c.in-Ok.ensures.done [ inl count ↦ none.0 count.1.1.0 count.1.1.1 count.1.1.2 | inr world ↦ none.1 world.0 ])

pub returns-in-Err-clause-usage : goal.returns-in-Err-clause-usage
returns-in-Err-clause-usage g c = told_usage _ _ _ _ _ _ _ c.in-Err.fault _ c.in-Err.ensures.fault c.report.ensures.status c.report.ensures.told
