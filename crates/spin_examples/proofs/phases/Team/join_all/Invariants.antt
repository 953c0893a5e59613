-- each joined worker gave its one part of each book back
use Rattle.std.proofs.Common.{◌≡◌, ◌+◌, true, vec_len}
use Rattle.spin_examples.specs.Phases.{IsSpent}
use Rattle.spin_examples.proofs.phases.Team.join_all.Given as goal

abbrev pub invariant-loop-worker : goal.invariant-loop-worker
invariant-loop-worker g l =
    (l.mine.parts + vec_len l.running ≡ l.fn.mine.parts + vec_len l.fn.running) × (l.fn.mine.amount ≡ 0 → IsSpent l.all_worked l.mine.amount)
    × (l.all_worked ≡ true → (l.turns.parts + vec_len l.running ≡ l.fn.turns.parts + vec_len l.fn.running) × (l.turns.amount ≡ l.fn.turns.amount))

abbrev pub decreases-loop-worker : goal.decreases-loop-worker
decreases-loop-worker g l = goal.left-loop-worker g l
