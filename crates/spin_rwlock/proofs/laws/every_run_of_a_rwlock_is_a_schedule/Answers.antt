use Rattle.spin_rwlock.proofs.laws.every_run_of_a_rwlock_is_a_schedule.Goals as goal

pub returns : goal.returns
returns g c = λ opening word trace parties is. is.2
