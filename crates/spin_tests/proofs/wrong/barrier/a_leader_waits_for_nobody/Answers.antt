use Rattle.std.proofs.Common.{refl, arith}
use Rattle.spin_world.specs.BarrierKind.{barrier}
use Rattle.spin_world_core.proofs.Otherwise.{four_steps}
use Rattle.spin_tests.proofs.wrong.barrier.a_leader_waits_for_nobody.Goals as goal
use Rattle.spin_step.specs.Asks.{meets}

pub returns : goal.returns
returns c = λ all. four_steps barrier 0 meets (λ recent first older is may alone. omega (arith, all.1.1.1.1.1.0.undisturbed recent first older is may alone)) refl (search) (search) (search) (search) refl
