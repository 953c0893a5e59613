use Rattle.std.specs.Prelude.{Some}
use Rattle.std.proofs.lemmas.Bool.{false≢true}
use Rattle.spin_step.specs.declared.place.Hold.TheVariants.{Write}
use Rattle.spin_step.specs.declared.flag_calls.FlagCall.TheVariants.{Release}
use Rattle.spin_tests.proofs.wrong.flag.a_holder_may_release.Goals as goal

pub returns : goal.returns
returns g c = λ value steps. false≢true (steps.begins Release (Some Write))
