-- a pass whose tries failed holds nothing, and has read and written nothing new
use Rattle.std.proofs.Common.{◌≡◌, [], None}
use Rattle.spin_seated.specs.Passes.{IsPassOf, pass_holds}
use Rattle.spin_seated.specs.Rw.{rw}
use Rattle.spin_examples.specs.Publishing.{Extends}
use Rattle.spin_examples.proofs.publishing.hold_as.Given as goal

abbrev pub invariant-loop : goal.invariant-loop
invariant-loop g l =
    record {
      goes_on : (goal.iterator-loop g).can_next l.iterator';
      ends : (goal.iterator-loop g).is_finite l.iterator';
      own : IsPassOf l.lock l.pass;
      free : pass_holds rw l.pass ≡ None;
      same : Extends l.fn.pass.known l.pass.known [] [];
    }
