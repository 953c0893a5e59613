use Rattle.spin_event.specs.Threads.{Rings}
use Rattle.spin_event.specs.declared.calls.EventCall.TheVariants.{NotifyAll}
use Rattle.std.proofs.Common.{None}
use Rattle.spin_event.proofs.steps.Event.ring_for_all.Given as goal

abbrev pub ghosts-add : goal.ghosts-add
ghosts-add a = record { told = λ key before. Rings NotifyAll None }
