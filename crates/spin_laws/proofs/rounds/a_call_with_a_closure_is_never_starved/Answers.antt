use Rattle.spin_laws.proofs.Names.{once_machine}
use Rattle.spin_laws.specs.Once.{BringsClosure, answers_or_fails}
use Rattle.spin_laws.proofs.Endless.{at_last}
use Rattle.spin_laws.proofs.Once.{answers_in_four}
use Rattle.spin_laws.proofs.rounds.a_call_with_a_closure_is_never_starved.Goals as goal

pub returns : goal.returns
returns g c = λ object n past. let m = once_machine object.value in
    at_last m (BringsClosure m) 4 (answers_or_fails m) n past (answers_in_four object.value n past)
