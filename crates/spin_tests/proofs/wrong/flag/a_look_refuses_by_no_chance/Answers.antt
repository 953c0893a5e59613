use Rattle.std.proofs.Common.{arith, false, None, refl}
use Rattle.spin_step.specs.declared.stepped.Next.TheVariants.{Continue}
use Rattle.spin_step.specs.declared.flag_calls.FlagCall.TheVariants.{Lock}
use Rattle.spin_step.specs.declared.flag_calls.FlagPoint.TheVariants.{Second}
use Rattle.spin_tests.proofs.wrong.flag.a_look_refuses_by_no_chance.Goals as goal

pub returns : goal.returns
returns g c = λ value law.
    let as_lost = law.refuses Lock Second None (Continue Second) refl in
    grind (arith, as_lost.4 false None, as_lost.5 0 false)
