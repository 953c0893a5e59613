use Rattle.std.proofs.Common.{subst}
use Rattle.spin_session.specs.Turns.{spot_of}
use Rattle.spin_step.specs.declared.answer.Answer.TheVariants.{Done}
use Rattle.spin_fair_seats.specs.Passes.{Calls}
use Rattle.spin_fair_seats.specs.declared.calls.FairSeatsCall.TheVariants.{Leave}
use Rattle.spin_fair_seats.proofs.seats.FairSeatGuard.leave.Goals as goal

pub returns : goal.returns
returns g c = subst (λ p. Calls g.row.N Leave Done p (spot_of c.make.result)) c.self.view_is c.make.ensures.calls
