use Rattle.spin_fair_seats.proofs.Seating.{few_sit}
use Rattle.spin_fair_seats.proofs.laws.no_more_sit_than_there_are_seats.Goals as goal

pub returns : goal.returns
returns g n next given views are = few_sit n next given views are
