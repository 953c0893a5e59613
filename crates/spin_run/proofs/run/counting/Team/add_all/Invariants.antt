-- the worker's share counts the additions that the worker still has to make
use Rattle.std.proofs.Common.{◌≡◌, ◌+◌}
use Rattle.spin_run.proofs.run.counting.Team.add_all.Given as goal

abbrev pub invariant-loop-done : goal.invariant-loop-done
invariant-loop-done g l = (l.share.parts ≡ 1) × (l.share.amount + l._done ≡ l.self.times)
