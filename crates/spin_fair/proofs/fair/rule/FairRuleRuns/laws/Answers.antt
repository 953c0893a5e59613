use Rattle.spin_session.proofs.Executing.{executes}
use Rattle.spin_fair.specs.Fair.{fair_meaning, fair_tables}
use Rattle.spin_fair.proofs.FairRefines.{fair_refines}
use Rattle.spin_fair.proofs.fair.rule.FairRuleRuns.laws.Goals as goal

pub returns : goal.returns
returns g c = executes (fair_tables 0) fair_meaning fair_refines
