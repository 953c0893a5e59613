use Rattle.spin_laws.proofs.Once.{answers_in_four}
use Rattle.spin_laws.proofs.rounds.a_call_with_a_closure_is_answered_in_four_rounds.Goals as goal

pub returns : goal.returns
returns g c = λ object n past rounds. answers_in_four object.value n past rounds
