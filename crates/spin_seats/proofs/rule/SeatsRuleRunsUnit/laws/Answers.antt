use Rattle.spin_session.proofs.Executing.{executes}
use Rattle.spin_seats.specs.Meaning.{seats_meaning}
use Rattle.spin_seats.specs.Rule.{seats_tables}
use Rattle.spin_seats.proofs.Seating.{seats_refine}
use Rattle.spin_seats.proofs.rule.SeatsRuleRunsUnit.laws.Goals as goal

pub returns : goal.returns
returns g c = executes (seats_tables g.row.N 0) (seats_meaning g.row.N) (λ v. seats_refine g.row.N)
