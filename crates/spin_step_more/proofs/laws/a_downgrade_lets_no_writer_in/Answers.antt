use Rattle.spin_step_more.proofs.Upgrading.{downgrade_keeps_out}
use Rattle.spin_step_more.proofs.laws.a_downgrade_lets_no_writer_in.Goals as goal

pub returns : goal.returns
returns g s p q k l may = downgrade_keeps_out s p q k l may
