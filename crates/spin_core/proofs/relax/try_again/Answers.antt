use Rattle.std.proofs.Common.{zero, suc, refl}
use Rattle.spin_core.proofs.relax.try_again.Goals as goal

pub returns-in-Ok : goal.returns-in-Ok
returns-in-Ok g c = c.loop.invariant.3 _ (zero, c.loop.state, refl, c.in-Ok.ensures)

pub loop-preserved : goal.loop-preserved
loop-preserved g c = (tt, tt, c.loop.invariant.2, λ answer later. c.loop.invariant.3 answer (suc later.0, later.1, (c.in-Err.next, c.in-Err.ensures, later.2), later.3))
