use Rattle.std.proofs.Common.{◌≡◌, ◌≤◌}
use Rattle.spin_examples.specs.Sections.{HasAdded}
use Rattle.spin_examples.proofs.adding.add_some.Given as goal

abbrev pub invariant-loop : goal.invariant-loop
invariant-loop l =
    record { number : l.pass.known.pass ≡ l.initial.pass.known.pass; added : HasAdded l.lock l.pass l.added; few : l.added ≤ l.counter }
