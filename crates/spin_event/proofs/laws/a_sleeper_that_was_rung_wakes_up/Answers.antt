use Rattle.spin_event.proofs.First.{wakes_up}
use Rattle.spin_event.proofs.laws.a_sleeper_that_was_rung_wakes_up.Goals as goal

pub returns : goal.returns
returns c = wakes_up
