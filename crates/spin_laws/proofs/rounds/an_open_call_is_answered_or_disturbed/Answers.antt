use Rattle.spin_laws.proofs.Alone.{answered_or_disturbed}
use Rattle.spin_laws.proofs.rounds.an_open_call_is_answered_or_disturbed.Goals as goal

pub returns : goal.returns
returns g c = λ object n past rounds. answered_or_disturbed (g.O.Object.machine object) (c.laws.ensures object) n past rounds
