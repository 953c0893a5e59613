use Rattle.std.proofs.Common.{sym}
use Rattle.spin_condvar.proofs.condvar.Condvar.wait_while.Goals as goal

-- the guard shows what the condition left
pub returns-then-not-condition-clause-stopped : goal.returns-then-not-condition-clause-stopped
returns-then-not-condition-clause-stopped g c =
    (c.loop.condition, c.condition.new.self, _, _, rw c.if-not-condition.true at c.condition.ensures, sym (g.met.G.Relock.shows c.loop.guard c.condition.new.arg2), c.loop.invariant.3)
