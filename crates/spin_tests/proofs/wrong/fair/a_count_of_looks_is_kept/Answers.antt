use Rattle.std.proofs.Common.{refl, arith}
use Rattle.spin_world.proofs.Registering.{two_in_vain}
use Rattle.spin_tests.proofs.wrong.fair.a_count_of_looks_is_kept.Goals as goal

pub returns-clause-clear : goal.returns-clause-clear
returns-clause-clear g c = λ value all.
    two_in_vain 1 1 all.1.1.1.1.1.1.1.1.1.1.1.1.1.0.in_time (record { party = refl; looks = refl; held = refl; unregistered = refl; late = omega arith })
    ((λ registers. cc (registers.1)), refl) ((λ registers. cc (registers.1)), refl) (λ few. omega (arith, few))

pub returns-clause-cap : goal.returns-clause-cap
returns-clause-cap g c = λ value all.
    two_in_vain 2 3 all.1.1.1.1.1.1.1.1.1.1.1.1.1.1.1.1.0.in_time (record { party = refl; looks = refl; held = refl; unregistered = refl; late = omega arith })
    ((λ registers. cc (registers.1)), refl) ((λ registers. cc (registers.1)), refl) (λ few. omega (arith, few))
