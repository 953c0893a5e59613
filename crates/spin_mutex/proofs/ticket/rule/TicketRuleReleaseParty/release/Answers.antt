use Rattle.std.proofs.Common.{sym, subst}
use Rattle.spin_session.specs.Meaning.{Peeks, with_second}
use Rattle.spin_mutex.specs.Queue.{ticket_meaning}
use Rattle.spin_mutex.proofs.TicketRefines.{peeked_seat}
use Rattle.spin_mutex.proofs.ticket.rule.TicketRuleReleaseParty.release.Goals as goal

pub give-requires-clause-alone : goal.give-requires-clause-alone
give-requires-clause-alone g c uses =
    let k = c.served-number in peeked_seat k.result.1.view.0 k.result.0 uses (subst (λ v. Peeks with_second ticket_meaning v k.result.0) (sym k.ensures.seat) k.ensures.finds)
