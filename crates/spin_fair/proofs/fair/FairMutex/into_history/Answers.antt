use Rattle.spin_session.specs.Meaning.{just_one}
use Rattle.spin_session.proofs.Ending.{ends}
use Rattle.spin_fair.specs.Fair.{fair_meaning, fair_tables}
use Rattle.spin_fair.proofs.fair.FairMutex.into_history.Goals as goal

pub returns : goal.returns
returns g c = let parts = c.into_parts-value in let end = parts.result in
    ends fair_tables fair_meaning just_one c.args.self.cell end.0 end.1 end.2 parts.ensures
