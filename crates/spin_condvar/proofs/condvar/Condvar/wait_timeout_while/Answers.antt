use Rattle.std.proofs.Common.{sym}
use Rattle.spin_condvar.proofs.condvar.Condvar.wait_timeout_while.Goals as goal

-- the guard shows what the condition left, whatever it answered
pub returns-then-not-condition-clause-answered : goal.returns-then-not-condition-clause-answered
returns-then-not-condition-clause-answered g c =
    (c.loop.condition, c.condition.new.self, _, _, rw c.if-not-condition.true at c.condition.ensures, sym (g.met.G.Relock.shows c.loop.guard c.condition.new.arg2), c.loop.invariant.3)

pub returns-in_default-clause-answered : goal.returns-in_default-clause-answered
returns-in_default-clause-answered g c =
    (c.loop.condition, c.condition.new.self, _, _, rw c.if-not-condition.false at c.condition.ensures, sym (g.met.G.Relock.shows c.loop.guard c.condition.new.arg2), c.loop.invariant.3)
