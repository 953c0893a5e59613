use Rattle.std.proofs.Common.{Some, refl, arith}
use Rattle.std.proofs.lemmas.Bool.{false≢true}
use Rattle.spin_step.specs.declared.place.Hold.TheVariants.{Upgradable}
use Rattle.spin_step_more.specs.declared.rw_calls.RwCall.TheVariants.{Upgrade}
use Rattle.spin_step_more.specs.declared.rw_calls.RwPoint.TheVariants.{Asking}
use Rattle.spin_step.specs.Schedules.{after, at_first}
use Rattle.spin_laws.proofs.Around.{rounds_are}
use Rattle.spin_tests.specs.WrongRw as rws
use Rattle.spin_tests.specs.WrongRw.{asks_anew}
use Rattle.spin_tests.specs.WrongProgress.{asked, three_steps}
use Rattle.spin_tests.proofs.wrong.progress.an_upgrade_asks_until_it_is_granted.Goals as goal

pub returns : goal.returns
returns g c = λ value law. false≢true (law 0 Upgrade Asking (Some Upgradable) refl refl (rounds_are (rws.wrong value asks_anew) (after (rws.wrong value asks_anew) (at_first (rws.wrong value asks_anew) 1) asked) three_steps refl) (omega arith))
