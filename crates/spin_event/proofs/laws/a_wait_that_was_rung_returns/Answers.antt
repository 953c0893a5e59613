use Rattle.spin_event.proofs.Returning.{returns_soon}
use Rattle.spin_event.proofs.laws.a_wait_that_was_rung_returns.Goals as goal

pub returns : goal.returns
returns c = returns_soon
