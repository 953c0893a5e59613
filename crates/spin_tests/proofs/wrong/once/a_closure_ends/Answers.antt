use Rattle.std.proofs.Common.{refl, arith}
use Rattle.spin_step.specs.OnceKind.{once}
use Rattle.spin_world_core.proofs.Otherwise.{four_steps}
use Rattle.spin_tests.proofs.wrong.once.a_closure_ends.Goals as goal
use Rattle.spin_step.specs.Asks.{initializes}

pub returns : goal.returns
returns g c = λ v all. four_steps once 0 initializes (λ recent first older is may alone. omega (arith, all.1.1.1.1.1.1.0.undisturbed recent first older is may alone)) refl (search) (search) (search) (search) refl
