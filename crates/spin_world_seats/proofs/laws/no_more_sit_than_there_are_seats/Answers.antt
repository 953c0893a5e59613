use Rattle.std.proofs.Common.{arith}
use Rattle.spin_world_core.proofs.Reached.{good, numbers_are}
use Rattle.spin_world_seats.proofs.Owed.{seats_facts}
use Rattle.spin_world_seats.proofs.laws.no_more_sit_than_there_are_seats.Goals as goal

pub returns : goal.returns
returns g object n past =
    let seats = object.seats in
    let numbers = numbers_are (seats_facts seats) n past in
    let shape = (good (seats_facts seats) n past).shape in (cc (numbers), grind (arith, numbers, shape.few))
