use Rattle.spin_session.specs.Meaning.{just_one}
use Rattle.spin_session.proofs.Ending.{ends, settles}
use Rattle.spin_flag.specs.Flag.{flag_meaning, flag_tables}
use Rattle.spin_flag.proofs.FlagRefines.{quiet}
use Rattle.spin_flag.proofs.spin.SpinMutex.try_into_history.Goals as goal

pub returns-then-word-eq0-clause-settled : goal.returns-then-word-eq0-clause-settled
returns-then-word-eq0-clause-settled g c = let parts = c.into_parts-word in let end = parts.result in
    settles flag_tables flag_meaning just_one c.args.self.cell end.0 end.1 end.2 (quiet end.0 c.if-word-eq0.true) parts.ensures

pub returns-else-word-eq0-clause-held : goal.returns-else-word-eq0-clause-held
returns-else-word-eq0-clause-held g c = let parts = c.into_parts-word in let end = parts.result in
    ends flag_tables flag_meaning just_one c.args.self.cell end.0 end.1 end.2 parts.ensures
