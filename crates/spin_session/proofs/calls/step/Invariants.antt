use Rattle.std.proofs.Common.{Some, false}
use Rattle.spin_session.specs.Turns.{TurnTold}
use Rattle.spin_session.proofs.calls.step.Given as goal

-- the operation is one of the call that is given
abbrev pub ghosts-operate : goal.ghosts-operate
ghosts-operate g a = record { told = λ key before. TurnTold g.P.Runs.tables g.P.Runs.meaning false (Some a.call) key before }
