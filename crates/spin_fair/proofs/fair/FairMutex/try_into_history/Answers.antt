use Rattle.std.proofs.Common.{sym, ◌∙◌}
use Rattle.spin_session.specs.Meaning.{just_one}
use Rattle.spin_session.proofs.Ending.{ends, settles}
use Rattle.spin_fair.specs.Fair.{fair_meaning, fair_tables}
use Rattle.spin_fair.proofs.FairRefines.{quiet}
use Rattle.spin_fair.proofs.fair.FairMutex.try_into_history.Goals as goal

pub returns-then-is_locked-clause-held : goal.returns-then-is_locked-clause-held
returns-then-is_locked-clause-held g c = let parts = c.into_parts-word in let end = parts.result in
    ends fair_tables fair_meaning just_one c.args.self.cell end.0 end.1 end.2 parts.ensures

pub returns-else-is_locked-clause-settled : goal.returns-else-is_locked-clause-settled
returns-else-is_locked-clause-settled g c = let parts = c.into_parts-word in let end = parts.result in
    settles fair_tables fair_meaning just_one c.args.self.cell end.0 end.1 end.2 (quiet end.0 (sym c.is_locked.ensures.exact ∙ c.if-is_locked.false)) parts.ensures
