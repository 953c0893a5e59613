use Rattle.std.proofs.Common.{Some}
use Rattle.spin_session.specs.Turns.{LeapTold, either_call, either_step}
use Rattle.spin_session_more.proofs.calls.exchange_for.Given as goal

-- the number found says which call the exchange makes
abbrev pub ghosts-leap : goal.ghosts-leap
ghosts-leap g a = record { told = λ key before. LeapTold g.P.Runs.tables g.P.Runs.meaning (λ n. Some (either_call a.call a.other a.ahead n)) (either_step a.start a.ahead) key before }
