use Rattle.std.proofs.Common.{arith, false, true, None, refl}
use Rattle.std.proofs.lemmas.Bool.{false≢true}
use Rattle.spin_step.specs.Plain.{to_write}
use Rattle.spin_step.specs.declared.stepped.Next.TheVariants.{Continue}
use Rattle.spin_step.specs.declared.flag_calls.FlagCall.TheVariants.{Lock}
use Rattle.spin_step.specs.declared.flag_calls.FlagPoint.TheVariants.{First}
use Rattle.spin_tests.proofs.wrong.flag.a_lock_looks_between_its_exchanges.Goals as goal

pub returns-clause-found : goal.returns-clause-found
returns-clause-found g c = λ value all. false≢true ((all.1.1.1.1.0.due to_write refl).1 refl)

pub returns-clause-chance : goal.returns-clause-chance
returns-clause-chance g c = λ value law.
    let as_lost = law.refuses Lock First None (Continue First) refl in
    grind (arith, as_lost.4 false None, as_lost.4 true None, as_lost.5 0 true, as_lost.3.words false None refl)
