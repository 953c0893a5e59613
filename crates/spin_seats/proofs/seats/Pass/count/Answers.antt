use Rattle.std.proofs.Common.{subst}
use Rattle.spin_session.specs.Turns.{spot_of}
use Rattle.spin_step.specs.declared.answer.Answer.TheVariants.{Count as Counted}
use Rattle.spin_seats.specs.Passes.{Calls}
use Rattle.spin_seats.specs.declared.calls.SeatsCall.TheVariants.{Count}
use Rattle.spin_seats.proofs.seats.Pass.count.Goals as goal

pub returns-clause-made : goal.returns-clause-made
returns-clause-made g c =
    let count = c.in-Count-default in let counted = subst (λ a. Calls g.row.N Count a (spot_of c.self.inside.session) (spot_of c.ask.result.1)) count.is-0 c.ask.ensures.calls in
    subst (λ p. Calls g.row.N Count (Counted count.taken) p (spot_of c.ask.result.1)) c.self.view_is counted
