use Rattle.spin_world_seats.proofs.fair.FairSeatsObject.refuse.Goals as goal

pub returns : goal.returns
returns c = c.refused.ensures tt
