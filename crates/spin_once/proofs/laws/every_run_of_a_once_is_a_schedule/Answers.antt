use Rattle.spin_once.proofs.Foretold.{is_run}
use Rattle.spin_once.specs.Once.{IsOnce}
use Rattle.spin_once.specs.OnceValues.{bare, given_of}
use Rattle.spin_once.proofs.laws.every_run_of_a_once_is_a_schedule.Goals as goal

pub returns : goal.returns
unfolding IsOnce
returns g c = λ opening word trace parties is. is_run (given_of opening.value) (bare trace.entries) (word, trace.word) parties is.0.2
