-- what `run_by` takes as its `Plan` and `Pooled`: the sum of all gains, the gain of one worker in a round, the number of
-- workers, and the names and parts of this call's books
use Rattle.std.proofs.Common.{◌*◌}
use Rattle.spin_examples.proofs.phases.run_phases.Given as goal

abbrev pub ghosts-run_by-P-Plan : goal.ghosts-run_by-P-Plan
ghosts-run_by-P-Plan g a = record { all = a.workers * (a.rounds * a.gain) }

abbrev pub ghosts-run_by-P-Ledger : goal.ghosts-run_by-P-Ledger
ghosts-run_by-P-Ledger g a = record { name = a.blank.name; parts = a.blank.parts }

abbrev pub ghosts-run_by-T-Pooled : goal.ghosts-run_by-T-Pooled
ghosts-run_by-T-Pooled g a = record { group = a.workers; each = a.gain }

abbrev pub ghosts-run_by-T-Ledger : goal.ghosts-run_by-T-Ledger
ghosts-run_by-T-Ledger g a = record { name = a.turns.name; parts = a.turns.parts }
