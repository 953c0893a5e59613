use Rattle.spin_world_core.proofs.Lawful.{laws_of}
use Rattle.spin_world_seats.proofs.FairOwed.{fair_seats_facts}
use Rattle.spin_world_seats.proofs.fair.FairSeatsObject.laws.Goals as goal

pub returns : goal.returns
returns c s = laws_of (fair_seats_facts s.seats)
