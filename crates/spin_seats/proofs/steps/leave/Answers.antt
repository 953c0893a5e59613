use Rattle.spin_seats.proofs.Taken.{leave-gives}
use Rattle.spin_seats.proofs.steps.leave.Goals as goal

pub returns-clause-plain : goal.returns-clause-plain
returns-clause-plain c s party word = leave-gives s party c.args.word word
