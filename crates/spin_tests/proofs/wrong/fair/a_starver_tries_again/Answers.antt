use Rattle.std.proofs.Common.{refl, arith}
use Rattle.spin_step_more.specs.FairKind.{fair}
use Rattle.spin_world_core.proofs.Otherwise.{four_steps}
use Rattle.spin_tests.proofs.wrong.fair.a_starver_tries_again.Goals as goal
use Rattle.spin_step.specs.Asks.{waits_starving}

pub returns : goal.returns
returns g c = λ value all. four_steps fair 1 waits_starving (λ recent first older is may alone. omega (arith, all.1.1.1.1.1.1.1.1.1.1.1.1.0.undisturbed recent first older is may alone)) refl (search) (search) (search) (search) refl
