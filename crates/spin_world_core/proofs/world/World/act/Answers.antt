use Rattle.std.proofs.Common.{arith}
use Rattle.spin_world_core.proofs.Playing.{can_reached, reached_next}
use Rattle.spin_world_core.proofs.world.World.act.Goals as goal

pub act-requires : goal.act-requires
act-requires g c = grind (arith, can_reached)

pub invariant_of-self : goal.invariant_of-self
invariant_of-self g c = reached_next (g.O.Object.machine c.self.inside.object) _ _ _ _ _ c.act.ensures c.self.invariant

pub returns-clause-reached : goal.returns-clause-reached
returns-clause-reached g c = reached_next (g.O.Object.machine c.self.inside.object) _ _ _ _ _ c.act.ensures c.self.invariant
