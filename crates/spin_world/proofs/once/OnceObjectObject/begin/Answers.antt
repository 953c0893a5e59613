use Rattle.spin_world.proofs.once.OnceObjectObject.begin.Goals as goal

pub returns : goal.returns
returns g c = c.start.ensures tt
