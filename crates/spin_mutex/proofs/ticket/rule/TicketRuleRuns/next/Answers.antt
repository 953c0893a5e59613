use Rattle.std.proofs.Common.{◌∙◌}
use Rattle.spin_mutex.proofs.TicketRefines.{goes_alike}
use Rattle.spin_mutex.proofs.ticket.rule.TicketRuleRuns.next.Goals as goal

pub returns : goal.returns
returns g c first value = let a = c.args in c.next.ensures value ∙ goes_alike value first a.call a.point a.holds a.found
