-- each joined worker gave its one part of the book back
use Rattle.std.proofs.Common.{◌≡◌, ◌+◌, vec_len}
use Rattle.spin_run.proofs.run.counting.Team.join_all.Given as goal

abbrev pub invariant-loop-worker : goal.invariant-loop-worker
invariant-loop-worker g l =
    (l.mine.parts + vec_len l.running ≡ l.fn.mine.parts + vec_len l.fn.running) × (l.mine.amount ≡ l.fn.mine.amount)

abbrev pub decreases-loop-worker : goal.decreases-loop-worker
decreases-loop-worker g l = goal.left-loop-worker g l
