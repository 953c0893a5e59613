use Rattle.spin_fair_seats.proofs.Seating.{fair_seats_execute}
use Rattle.spin_fair_seats.proofs.rule.FairSeatsRuleRunsUnit.laws.Goals as goal

pub returns : goal.returns
returns g c = fair_seats_execute g.row.N
