use Rattle.std.proofs.Common.{Some}
use Rattle.std.proofs.lemmas.Bool.{true≢false}
use Rattle.spin_step.specs.declared.place.Hold.TheVariants as hold
use Rattle.spin_step_more.specs.declared.rw_calls.RwCall.TheVariants.{Upgrade}
use Rattle.spin_tests.proofs.wrong.rw.only_the_upgradable_reader_upgrades.Goals as goal

pub returns : goal.returns
returns g c = λ value steps. true≢false (steps.begins Upgrade (Some hold.Read))
