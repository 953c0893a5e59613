-- the worker's share counts the gains that the worker still has to add, and between two rounds its turn counts nothing
use Rattle.std.proofs.Common.{◌≡◌, ◌+◌, ◌*◌}
use Rattle.spin_examples.proofs.phases.Team.work.Given as goal

abbrev pub invariant-loop-round : goal.invariant-loop-round
invariant-loop-round g l =
    (l.share.parts ≡ 1) × (l.share.amount + l._round * l.self.gain ≡ l.self.rounds * l.self.gain) × (l.turn.parts ≡ 1) × (l.turn.amount ≡ 0)
