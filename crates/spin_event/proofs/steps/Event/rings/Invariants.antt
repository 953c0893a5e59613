use Rattle.spin_event.specs.Threads.{Listens}
use Rattle.std.proofs.Common.{None}
use Rattle.spin_event.proofs.steps.Event.rings.Given as goal

abbrev pub ghosts-load : goal.ghosts-load
ghosts-load a = record { told = λ key before. Listens None }
