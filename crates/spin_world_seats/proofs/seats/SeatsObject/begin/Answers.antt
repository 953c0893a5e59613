use Rattle.spin_world_seats.proofs.seats.SeatsObject.begin.Goals as goal

pub returns : goal.returns
returns c = c.start.ensures tt
