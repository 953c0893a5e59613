use Rattle.std.proofs.Common.{Some, None, refl}
use Rattle.std.proofs.lemmas.Bool.{false≢true}
use Rattle.spin_step.specs.Plain.{gets, to_write, to_upgrade_asked}
use Rattle.spin_step.specs.declared.place.Hold.TheVariants.{Upgradable}
use Rattle.spin_step_more.specs.declared.rw_calls.RwCall.TheVariants.{TryWriteWeak, Write, Upgrade}
use Rattle.spin_step_more.specs.declared.rw_calls.RwPoint.TheVariants.{First, Asking}
use Rattle.spin_tests.proofs.wrong.rw.a_weak_exchange_is_weak.Goals as goal

pub returns-clause-tries : goal.returns-clause-tries
returns-clause-tries g c = λ value steps. false≢true (steps.weak 0 TryWriteWeak First None 0 (gets 0 to_write) refl refl)

pub returns-clause-waits : goal.returns-clause-waits
returns-clause-waits g c = λ value steps. false≢true (steps.weak 0 Write First None 0 (gets 0 to_write) refl refl)

pub returns-clause-upgrades : goal.returns-clause-upgrades
returns-clause-upgrades g c = λ value steps. false≢true (steps.weak 0 Upgrade Asking (Some Upgradable) 6 (gets 0 to_upgrade_asked) refl refl)
