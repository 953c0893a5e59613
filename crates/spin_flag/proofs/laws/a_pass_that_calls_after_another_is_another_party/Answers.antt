use Rattle.spin_flag.specs.Flag.{flag_tables}
use Rattle.spin_session.proofs.Apart.{are_two}
use Rattle.spin_flag.proofs.laws.a_pass_that_calls_after_another_is_another_party.Goals as goal

pub returns : goal.returns
returns g c = λ c d a b one one' other other'. are_two flag_tables c d a b one one' other other'
