use Rattle.spin_world_seats.proofs.fair.FairSeatsObject.step.Goals as goal

pub returns : goal.returns
returns c = c.stepped.ensures tt
