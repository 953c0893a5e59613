use Rattle.spin_core.specs.Retries.{Succeeds}
use Rattle.spin_core.proofs.relax.try_again.Given as goal

-- each answer that is possible from this state is possible from the first state too
abbrev pub invariant-loop : goal.invariant-loop
invariant-loop g l =
    (goal.iterator-loop g).can_next l.iterator' × (goal.iterator-loop g).is_finite l.iterator' × goal.F-IsAlwaysCallable g l.attempt
    × ((answer : _) → Succeeds (goal.F-post g l.attempt) l.state answer → Succeeds (goal.F-post g l.fn.attempt) l.fn.state answer)
