use Rattle.spin_event.specs.Threads.{Looks}
use Rattle.spin_event.proofs.steps.looks.Given as goal

abbrev pub ghosts-load_second : goal.ghosts-load_second
ghosts-load_second a = record { told = λ key before. Looks before }
