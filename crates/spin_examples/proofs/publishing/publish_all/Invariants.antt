use Rattle.std.proofs.Common.{◌≡◌, [], None, take}
use Rattle.spin_seated.specs.Passes.{IsPassOf, pass_holds}
use Rattle.spin_seated.specs.Rw.{rw}
use Rattle.spin_examples.specs.Publishing.{Extends}
use Rattle.spin_examples.proofs.publishing.publish_all.Given as goal

abbrev pub invariant-loop-value : goal.invariant-loop-value
invariant-loop-value g l =
    record {
      own : IsPassOf l.lock l.pass;
      free : pass_holds rw l.pass ≡ None;
      published : Extends l.initial.pass.known l.pass.known [] (take l.value-index l.values);
    }
