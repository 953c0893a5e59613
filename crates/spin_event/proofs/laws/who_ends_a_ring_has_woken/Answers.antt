use Rattle.spin_event.proofs.First.{rings_wake}
use Rattle.spin_event.proofs.laws.who_ends_a_ring_has_woken.Goals as goal

pub returns : goal.returns
returns c = rings_wake
