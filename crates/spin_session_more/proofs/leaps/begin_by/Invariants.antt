use Rattle.std.proofs.Common.{Some}
use Rattle.spin_session.specs.Turns.{LeapTold, last_step}
use Rattle.spin_session_more.proofs.leaps.begin_by.Given as goal

-- the exchange makes steps of the call that is given
abbrev pub ghosts-leap : goal.ghosts-leap
ghosts-leap g a = record { told = λ key before. LeapTold g.P.Runs.tables g.P.Runs.meaning (λ n. Some a.call) (last_step a.start a.ahead) key before }
