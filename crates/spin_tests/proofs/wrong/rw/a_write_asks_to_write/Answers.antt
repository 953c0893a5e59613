use Rattle.std.proofs.Common.{None, Some, ap, refl}
use Rattle.spin_step_more.specs.declared.rw_calls.RwCall.TheVariants.{Write}
use Rattle.spin_tests.proofs.wrong.rw.a_write_asks_to_write.Goals as goal
use Rattle.std.proofs.lemmas.Bool.{false≢true}
use Rattle.spin_step.specs.Calls.{Asked, granted}
use Rattle.spin_step.specs.declared.place.Hold.TheVariants.{Starver}

pub returns-clause-other : goal.returns-clause-other
returns-clause-other g c = λ value is. false≢true (ap (λ (what : Asked). what.is_weak) (is.write None))

pub returns-clause-unknown : goal.returns-clause-unknown
returns-clause-unknown g c = λ value steps. false≢true (steps.fits Write (Some Starver) granted 0 refl)
