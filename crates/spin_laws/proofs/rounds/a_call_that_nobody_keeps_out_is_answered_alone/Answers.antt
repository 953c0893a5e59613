use Rattle.spin_laws.proofs.Solo.{answered_alone}
use Rattle.spin_laws.proofs.rounds.a_call_that_nobody_keeps_out_is_answered_alone.Goals as goal

pub returns : goal.returns
returns g c = λ object n past. answered_alone (g.O.Object.machine object) (c.laws.ensures object) n past
