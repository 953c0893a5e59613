use Rattle.std.proofs.Common.{Some, true}
use Rattle.spin_session.specs.Turns.{TurnTold}
use Rattle.spin_session.proofs.calls.give.Given as goal

-- the operation is one of the call that is given, before which the party writes its value
abbrev pub ghosts-operate : goal.ghosts-operate
ghosts-operate g a = record { told = λ key before. TurnTold g.P.Runs.tables g.P.Runs.meaning true (Some a.call) key before }
