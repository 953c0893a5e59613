-- each started worker took one part of the book, and its additions
use Rattle.std.proofs.Common.{◌≡◌, ◌+◌, ◌*◌, ◌≤◌, vec_len, vec_capacity}
use Rattle.spin_run.proofs.run.counting.Team.start_all.Given as goal

abbrev pub invariant-loop-worker : goal.invariant-loop-worker
invariant-loop-worker g l =
    (l.mine.parts + l.worker ≡ l.workers + 1)
    × (l.mine.amount + l.worker * l.self.times ≡ l.workers * l.self.times)
    × (vec_len l.running ≡ l.worker)
    × (l.workers ≤ vec_capacity l.running)
