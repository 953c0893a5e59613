use Rattle.std.proofs.Common.{Some}
use Rattle.std.proofs.lemmas.Bool.{false≢true}
use Rattle.spin_step.specs.declared.place.Hold.TheVariants.{Read}
use Rattle.spin_seats.specs.declared.calls.SeatsCall.TheVariants as call
use Rattle.spin_tests.proofs.wrong.seats.a_seated_party_may_leave.Goals as goal

pub returns : goal.returns
returns g steps = false≢true (steps.begins call.Leave (Some Read))
