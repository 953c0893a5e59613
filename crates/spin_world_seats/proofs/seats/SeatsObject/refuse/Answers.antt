use Rattle.spin_world_seats.proofs.seats.SeatsObject.refuse.Goals as goal

pub returns : goal.returns
returns c = c.refused.ensures tt
