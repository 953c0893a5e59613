use Rattle.spin_laws.proofs.Names.{IsWaiting, grants_any, seats_machine}
use Rattle.spin_laws.proofs.Endless.{at_last}
use Rattle.spin_laws.proofs.Seats.{enters_in_four}
use Rattle.spin_laws.proofs.rounds.seats_are_free_of_deadlock.Goals as goal

pub returns : goal.returns
returns g = λ object n past schedule some. let m = seats_machine object.seats in
    at_last m (IsWaiting m) 4 (λ p. grants_any m) n past (enters_in_four object.seats some n past) schedule
