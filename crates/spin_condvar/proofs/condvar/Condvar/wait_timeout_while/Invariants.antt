use Rattle.std.proofs.Common.{◌≡◌}
use denote.Param.Always.{always_mut}
use Rattle.std.specs.Iterator.Runs.{CallKeepsClosure}
use Rattle.spin_condvar.proofs.condvar.Condvar.wait_timeout_while.Given as goal

-- a call of the lock returned the guard; the condition can be called, and is what it was if calls keep it
abbrev pub invariant-loop : goal.invariant-loop
invariant-loop g l =
    (goal.iterator-loop g).can_next l.iterator' × (goal.iterator-loop g).is_finite l.iterator' × always_mut g.F.FnMut l.condition
    × (CallKeepsClosure g.F.FnMut l.initial.condition → l.condition ≡ l.initial.condition) × g.G.Relock.holds l.guard
