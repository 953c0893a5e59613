use Rattle.spin_flag.proofs.laws.every_run_of_a_spin_mutex_is_a_schedule.Goals as goal

pub returns : goal.returns
returns g c = λ name word trace parties is. is.2
