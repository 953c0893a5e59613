use Rattle.std.proofs.Common.{refl, arith}
use Rattle.spin_world.proofs.Registering.{two_in_vain}
use Rattle.spin_tests.proofs.wrong.fair.a_lock_in_vain_registers.Goals as goal

pub returns : goal.returns
returns g c = λ value all.
    two_in_vain 1 1 all.1.1.1.1.1.1.1.0.in_time (record { party = refl; looks = refl; held = refl; unregistered = refl; late = omega arith })
    ((λ registers. cc (registers.1)), refl) ((λ registers. cc (registers.1)), refl) (λ few. omega (arith, few))
