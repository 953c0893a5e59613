use Rattle.spin_text.proofs.Scripts.{one_script}
use Rattle.spin_text.proofs.laws.a_text_has_one_reading.Goals as goal

pub returns : goal.returns
returns c = one_script
