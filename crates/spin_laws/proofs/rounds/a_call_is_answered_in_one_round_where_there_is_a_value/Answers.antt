use Rattle.spin_laws.proofs.Once.{answers_in_one}
use Rattle.spin_laws.proofs.rounds.a_call_is_answered_in_one_round_where_there_is_a_value.Goals as goal

pub returns : goal.returns
returns g c = λ object n past rounds. answers_in_one object.value n past rounds
