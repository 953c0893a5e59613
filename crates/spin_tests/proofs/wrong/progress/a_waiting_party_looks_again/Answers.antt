use Rattle.std.proofs.Common.{None, refl, arith}
use Rattle.std.proofs.lemmas.Bool.{false≢true}
use Rattle.spin_step.specs.declared.flag_calls.FlagCall.TheVariants.{Lock}
use Rattle.spin_step.specs.declared.flag_calls.FlagPoint.TheVariants.{First}
use Rattle.spin_step.specs.Schedules.{after, at_first}
use Rattle.spin_laws.proofs.Around.{rounds_are}
use Rattle.spin_tests.specs.WrongFlag as flags
use Rattle.spin_tests.specs.WrongFlag.{looks_for_ever}
use Rattle.spin_tests.specs.WrongProgress.{set_before_it, four_looks}
use Rattle.spin_tests.proofs.wrong.progress.a_waiting_party_looks_again.Goals as goal

pub returns : goal.returns
returns g c = λ value law. false≢true (law 0 Lock First None refl refl (rounds_are (flags.wrong value looks_for_ever) (after (flags.wrong value looks_for_ever) (at_first (flags.wrong value looks_for_ever) 2) set_before_it) four_looks refl) (omega arith))
