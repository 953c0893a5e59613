use Rattle.std.proofs.Common.{Some, ap}
use Rattle.std.proofs.lemmas.Bool.{false≢true}
use Rattle.spin_step.specs.declared.place.Hold.TheVariants.{Read}
use Rattle.spin_tests.proofs.wrong.seats.a_lock_is_of_its_kind.Goals as goal
use Rattle.spin_step.specs.Calls.{Asked}

pub returns : goal.returns
returns g is = false≢true (ap (λ (what : Asked). what.begins (Some Read)) (is.leave (Some Read)))
