use Rattle.spin_laws.proofs.Names.{IsWaiting, either, flag_machine, grants_any, refuses_weakly}
use Rattle.spin_laws.proofs.Endless.{at_last}
use Rattle.spin_laws.proofs.Flag.{locks_in_four}
use Rattle.spin_laws.proofs.rounds.a_flag_is_free_of_deadlock.Goals as goal

pub returns : goal.returns
returns g c = λ object n past. let m = flag_machine object.value in
    at_last m (IsWaiting m) 4 (λ p. either (grants_any m) (refuses_weakly p)) n past (locks_in_four object.value n past)
