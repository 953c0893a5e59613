use Rattle.std.proofs.Common.{subst}
use Rattle.spin_step.specs.declared.answer.Answer.TheVariants.{Granted}
use Rattle.spin_seats.specs.Passes.{Calls}
use Rattle.spin_seats.specs.declared.calls.SeatsCall.TheVariants.{Enter}
use Rattle.spin_seats.proofs.seats.Seats.enter.Goals as goal

pub returns : goal.returns
returns g c = subst (λ new. Calls g.row.N Enter Granted new c.enter.result) c.pass.ensures.new c.enter.ensures
