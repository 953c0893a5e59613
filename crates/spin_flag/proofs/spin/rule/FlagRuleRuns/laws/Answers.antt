use Rattle.spin_step.specs.FlagCalls.{flag_table}
use Rattle.spin_session.proofs.Executing.{executes}
use Rattle.spin_flag.specs.Flag.{flag_meaning}
use Rattle.spin_flag.proofs.FlagRefines.{flag_refines}
use Rattle.spin_flag.proofs.spin.rule.FlagRuleRuns.laws.Goals as goal

pub returns : goal.returns
returns g c = executes flag_table flag_meaning flag_refines
