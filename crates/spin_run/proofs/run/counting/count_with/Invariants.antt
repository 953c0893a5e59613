-- how many additions all workers of this call make, and the name and the parts of this call's book
use Rattle.std.proofs.Common.{◌*◌}
use Rattle.spin_run.proofs.run.counting.count_with.Given as goal

abbrev pub ghosts-count_by-P-Plan : goal.ghosts-count_by-P-Plan
ghosts-count_by-P-Plan g a = record { all = a.workers * a.times }

abbrev pub ghosts-count_by-P-Ledger : goal.ghosts-count_by-P-Ledger
ghosts-count_by-P-Ledger g a = record { name = a.blank.name; parts = a.blank.parts }
