use Rattle.spin_event.specs.Threads.{Uncounts}
use Rattle.spin_event.proofs.steps.Slept.uncount.Given as goal

abbrev pub ghosts-add_second : goal.ghosts-add_second
ghosts-add_second a = record { told = λ key before. Uncounts before }
