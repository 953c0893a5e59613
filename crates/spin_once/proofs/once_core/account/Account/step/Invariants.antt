use Rattle.spin_core.specs.Own.{what}
use Rattle.spin_session.specs.Turns.{has_begun}
use Rattle.spin_once.specs.Once.{Told, turn}
use Rattle.spin_once.proofs.once_core.account.Account.step.Given as goal

-- the operation is one of the call that is given
abbrev pub ghosts-operate : goal.ghosts-operate
ghosts-operate g a = record { told = λ key before. Told key.opening (turn (has_begun (what before)) a.call a.point) before }
