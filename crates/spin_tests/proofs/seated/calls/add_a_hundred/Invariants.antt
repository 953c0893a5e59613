use Rattle.std.proofs.Common.{◌≤◌}
use Rattle.spin_seated.specs.Passes.{IsPassOf}
use Rattle.spin_tests.proofs.seated.calls.add_a_hundred.Given as goal

abbrev pub invariant-loop : goal.invariant-loop
invariant-loop g l = IsPassOf l.lock l.pass × (l.added ≤ l.counter)
