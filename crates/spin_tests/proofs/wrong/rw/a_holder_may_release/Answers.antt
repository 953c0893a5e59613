use Rattle.std.proofs.Common.{Some}
use Rattle.std.proofs.lemmas.Bool.{false≢true}
use Rattle.spin_step.specs.declared.place.Hold.TheVariants as hold
use Rattle.spin_step_more.specs.declared.rw_calls.RwCall.TheVariants.{Release}
use Rattle.spin_tests.proofs.wrong.rw.a_holder_may_release.Goals as goal

pub returns : goal.returns
returns g c = λ value steps. false≢true (steps.begins Release (Some hold.Write))
