-- after each turn of the loop the pass is of this lock, and holds nothing
use Rattle.std.proofs.Common.{◌≡◌, ◌≤◌, None}
use Rattle.spin_seated.specs.Passes.{IsPassOf, pass_holds}
use Rattle.spin_seated.specs.Rw.{rw}
use Rattle.spin_tests.proofs.seated.readers.write_some.Given as goal

abbrev pub invariant-loop : goal.invariant-loop
invariant-loop g l = IsPassOf l.lock l.pass × (pass_holds rw l.pass ≡ None) × (l.added ≤ l.counter)
