use Rattle.std.proofs.Common.{sym, subst}
use Rattle.spin_world_core.specs.Runs.{IsReached}
use Rattle.spin_world_core.proofs.world.World.copy.Goals as goal

pub invariant_of-result : goal.invariant_of-result
invariant_of-result g c = subst (IsReached (g.O.Object.machine c.self.inside.object)) (sym c.in_ok-copy.ensures) c.self.invariant
