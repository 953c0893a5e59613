use Rattle.spin_laws.proofs.Names.{WaitsWith, after, at_first, grants_party, ticket_machine, ◌*◌, ◌+◌, ◌-◌}
use Rattle.spin_laws.proofs.Endless.{at_last}
use Rattle.spin_laws.proofs.Ticket.{enters_in_rounds}
use Rattle.spin_laws.proofs.rounds.a_ticket_is_never_starved.Goals as goal

pub returns : goal.returns
returns g c = λ object n past schedule t. let m = ticket_machine object.value object.first in
    let bound = 3 * (t - (after m (at_first m n) past).words.serving) + 1 in
    at_last m (WaitsWith t) bound (grants_party m) n past (λ rounds. enters_in_rounds object.value object.first n past rounds t) schedule
