use Rattle.std.proofs.Common.{arith}
use Rattle.spin_world_core.proofs.Reached.{good}
use Rattle.spin_fair_seats.proofs.Line.{sit_is}
use Rattle.spin_world_seats.proofs.FairOwed.{fair_seats_facts}
use Rattle.spin_world_seats.proofs.laws.parties_sit_in_the_order_of_their_tickets.Goals as goal

pub returns : goal.returns
returns g object n past p q t u his hers less may =
    let shape = (good (fair_seats_facts object.seats) n past).shape in
    grind (arith, less, may, sit_is _ p shape.fair t his, sit_is _ q shape.fair u hers)
