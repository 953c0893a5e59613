use Rattle.std.proofs.Common.{◌≡◌, ◌+◌}
use Rattle.spin_examples.proofs.planned.add_all.Given as goal

abbrev pub invariant-loop-done : goal.invariant-loop-done
invariant-loop-done g l = (l.mine.parts ≡ 1) × (l.mine.amount + l._done ≡ 100)
