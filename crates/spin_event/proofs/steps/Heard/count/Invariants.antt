use Rattle.spin_event.specs.Threads.{Counts}
use Rattle.std.proofs.Common.{None}
use Rattle.spin_event.proofs.steps.Heard.count.Given as goal

abbrev pub ghosts-counts : goal.ghosts-counts
ghosts-counts a = record { told = λ key before. Counts a.heard None }
