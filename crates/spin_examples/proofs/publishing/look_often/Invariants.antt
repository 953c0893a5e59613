use Rattle.std.proofs.Common.{◌≡◌, [], None, length}
use Rattle.spin_seated.specs.Passes.{IsPassOf, pass_holds}
use Rattle.spin_seated.specs.Rw.{rw}
use Rattle.spin_examples.specs.Publishing.{Extends}
use Rattle.spin_examples.proofs.publishing.look_often.Given as goal

abbrev pub invariant-loop : goal.invariant-loop
invariant-loop g l =
    record {
      own : IsPassOf l.lock l.pass;
      free : pass_holds rw l.pass ≡ None;
      looked : Extends l.initial.pass.known l.pass.known l.seen.items [];
      times : length l.seen.items ≡ l.counter;
    }
