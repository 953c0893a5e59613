use Rattle.std.proofs.Common.{subst}
use Rattle.spin_step.specs.declared.answer.Answer.TheVariants.{Is}
use Rattle.spin_session.specs.Turns.{spot_of}
use Rattle.spin_mutex.specs.TicketPasses.{Calls, IsLocked}
use Rattle.spin_mutex.proofs.ticket.pass.Pass.is_locked.Goals as goal

pub returns : goal.returns
returns g c =
    let from = spot_of c.self.inside.session in let f = c.in_three-answer in
    subst (λ b. Calls IsLocked (Is c.in-Is.is_locked) b (spot_of f.result.2)) c.self.view_is (subst (λ a. Calls IsLocked a from (spot_of f.result.2)) c.in-Is.is f.ensures.ended.0)
