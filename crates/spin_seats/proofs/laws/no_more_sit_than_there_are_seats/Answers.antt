use Rattle.spin_seats.proofs.Seating.{as_many_sit}
use Rattle.spin_seats.proofs.laws.no_more_sit_than_there_are_seats.Goals as goal

pub returns : goal.returns
returns g n word views is = as_many_sit n word views is
