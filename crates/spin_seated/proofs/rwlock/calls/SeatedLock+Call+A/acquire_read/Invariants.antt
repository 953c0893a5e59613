use Rattle.spin_seated.specs.Histories.{Turned}
use Rattle.spin_seated.specs.Passes.{IsPassOf}
use Rattle.spin_seated.specs.Rw.{rw, refused_by}
use Rattle.spin_seated.proofs.rwlock.calls.SeatedLock+Call+A.acquire_read.Given as goal

-- if the word found last has no room for a reader, the step that found it was the call, which fails
abbrev pub invariant-loop : goal.invariant-loop
invariant-loop g l =
    record {
      goes_on : (goal.iterator-loop g).can_next l.iterator';
      ends : (goal.iterator-loop g).is_finite l.iterator';
      own : IsPassOf l.self l.place;
      told : Turned rw (refused_by l.found) l.fn.place.known l.place.known;
    }
