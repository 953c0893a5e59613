use Rattle.spin_mutex.proofs.laws.every_run_of_a_ticket_mutex_is_a_schedule.Goals as goal

pub returns : goal.returns
returns g c = λ key next trace parties is. is.2
