use Rattle.spin_world_core.proofs.Lawful.{laws_of}
use Rattle.spin_tests.proofs.Promising.{careless_facts}
use Rattle.spin_tests.proofs.careless.no_law_refuses_these_mistakes.Goals as goal

pub returns : goal.returns
returns g = laws_of careless_facts
