-- from the caller's shares each started worker took one part of each book, and the amount of its own gains
use Rattle.std.proofs.Common.{◌≡◌, ◌+◌, ◌*◌, ◌≤◌, vec_len, vec_capacity}
use Rattle.spin_examples.proofs.phases.Team.start_each.Given as goal

abbrev pub invariant-loop-worker : goal.invariant-loop-worker
invariant-loop-worker g l =
    (l.mine.parts + l.worker ≡ l.workers + 1)
    × (l.mine.amount + l.worker * (l.self.rounds * l.self.gain) ≡ l.workers * (l.self.rounds * l.self.gain))
    × (vec_len l.running ≡ l.worker)
    × (l.workers ≤ vec_capacity l.running)
    × (l.turns.parts + l.worker ≡ l.fn.turns.parts)
    × (l.turns.amount ≡ 0)
