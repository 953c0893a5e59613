use Rattle.spin_laws.proofs.Rw.{upgrades_in_three}
use Rattle.spin_laws.proofs.rounds.an_upgrade_is_granted_in_three_rounds.Goals as goal

pub returns : goal.returns
returns g c = λ object n past rounds. upgrades_in_three object.value object.cap n past rounds
