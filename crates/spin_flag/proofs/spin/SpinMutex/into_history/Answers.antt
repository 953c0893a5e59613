use Rattle.spin_session.specs.Meaning.{just_one}
use Rattle.spin_session.proofs.Ending.{ends}
use Rattle.spin_flag.specs.Flag.{flag_meaning, flag_tables}
use Rattle.spin_flag.proofs.spin.SpinMutex.into_history.Goals as goal

pub returns : goal.returns
returns g c = let parts = c.into_parts-value in let end = parts.result in
    ends flag_tables flag_meaning just_one c.args.self.cell end.0 end.1 end.2 parts.ensures
