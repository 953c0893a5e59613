use Rattle.std.specs.Prelude.{Some}
use Rattle.std.proofs.lemmas.Bool.{true≢false}
use Rattle.spin_step.specs.declared.place.Hold.TheVariants.{Starver}
use Rattle.spin_step_more.specs.declared.fair_calls.FairCall.TheVariants.{Starve}
use Rattle.spin_tests.proofs.wrong.fair.a_starver_may_not_starve_again.Goals as goal

pub returns : goal.returns
returns g c = λ value steps. true≢false (steps.begins Starve (Some Starver))
