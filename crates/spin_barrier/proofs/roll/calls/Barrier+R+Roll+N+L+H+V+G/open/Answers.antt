use Rattle.spin_barrier.proofs.Gathered.{at_first}
use Rattle.spin_barrier.proofs.roll.calls.Barrier+R+Roll+N+L+H+V+G.open.Goals as goal

pub invariant_of-new-2 : goal.invariant_of-new-2
invariant_of-new-2 g c = let new = c.new.result in
    record { agrees = at_first g.N.Groups.group c.args.n new.n c.open-came.result.0.total new.count new.generation c.requires.group c.new.ensures.n c.open-came.ensures.total (c.new.ensures.plain 0 0) }
