use Rattle.spin_once.specs.Once.{Told}
use Rattle.spin_once.proofs.Moves.{gives_by}
use Rattle.spin_once.proofs.once_core.init_permit.InitPermit.complete.Given as goal

abbrev pub ghosts-operate : goal.ghosts-operate
ghosts-operate g a = record { told = λ key before. Told key.opening gives_by before }
