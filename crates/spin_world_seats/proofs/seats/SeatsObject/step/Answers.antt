use Rattle.spin_world_seats.proofs.seats.SeatsObject.step.Goals as goal

pub returns : goal.returns
returns c = c.stepped.ensures tt
