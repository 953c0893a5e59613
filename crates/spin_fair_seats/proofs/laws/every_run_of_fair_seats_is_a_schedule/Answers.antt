use Rattle.spin_fair_seats.proofs.laws.every_run_of_fair_seats_is_a_schedule.Goals as goal

pub returns : goal.returns
returns g = λ n word opening trace parties is. is.2
