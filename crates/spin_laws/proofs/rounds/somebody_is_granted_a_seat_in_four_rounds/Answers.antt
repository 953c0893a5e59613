use Rattle.spin_laws.proofs.Seats.{enters_in_four}
use Rattle.spin_laws.proofs.rounds.somebody_is_granted_a_seat_in_four_rounds.Goals as goal

pub returns : goal.returns
returns g = λ object n past rounds some. enters_in_four object.seats some n past rounds
