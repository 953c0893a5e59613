use Rattle.std.specs.Prelude.{None}
use Rattle.spin_step.specs.declared.flag_calls.FlagCall.TheVariants.{Lock}
use Rattle.spin_tests.proofs.wrong.flag.a_lock_asks_what_a_flag_grants.Goals as goal
use Rattle.std.proofs.Common.{refl}
use Rattle.std.proofs.lemmas.Bool.{false≢true}
use Rattle.spin_step.specs.Calls.{granted}

pub returns : goal.returns
returns g c = λ value steps. false≢true (steps.fits Lock None granted 0 refl)
