use Rattle.spin_event.specs.Threads.{Parks}
use Rattle.spin_event.proofs.steps.sleeps.Given as goal

abbrev pub ghosts-park : goal.ghosts-park
ghosts-park g a = record { told = λ key before log es n v. Parks a.expected before log es n v }
