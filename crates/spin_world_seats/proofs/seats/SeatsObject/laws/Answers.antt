use Rattle.spin_world_core.proofs.Lawful.{laws_of}
use Rattle.spin_world_seats.proofs.Owed.{seats_facts}
use Rattle.spin_world_seats.proofs.seats.SeatsObject.laws.Goals as goal

pub returns : goal.returns
returns c s = laws_of (seats_facts s.seats)
