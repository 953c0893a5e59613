use Rattle.spin_world_seats.proofs.Owed.{seats_facts}
use Rattle.spin_laws.proofs.Counts.{keeps_limits}
use Rattle.spin_laws.proofs.limits.a_call_of_seats_keeps_its_limit.Goals as goal

pub returns : goal.returns
returns g n = keeps_limits (seats_facts n)
