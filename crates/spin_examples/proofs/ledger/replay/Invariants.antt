-- the rest of the journal turns the balances so far into those after the whole journal
use Rattle.std.proofs.Common.{◌≡◌, sum, drop}
use Rattle.spin_examples.specs.Ledger.{replayed}
use Rattle.spin_examples.proofs.ledger.replay.Given as goal

abbrev pub invariant-loop-transfer : goal.invariant-loop-transfer
invariant-loop-transfer g l =
    (replayed l.opening l.journal ≡ replayed l.balances.items (drop l.transfer-index l.journal))
    × (sum l.balances.items ≡ sum l.opening)
