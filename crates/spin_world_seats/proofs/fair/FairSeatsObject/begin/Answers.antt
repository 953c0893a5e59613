use Rattle.spin_world_seats.proofs.fair.FairSeatsObject.begin.Goals as goal

pub returns : goal.returns
returns c = c.start.ensures tt
