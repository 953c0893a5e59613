use Rattle.spin_seats.proofs.Seating.{gets_up_as_step}
use Rattle.spin_seats.proofs.laws.a_subtraction_is_its_step_function.Goals as goal

pub returns : goal.returns
returns g n word views p is at = gets_up_as_step n word views p is at
