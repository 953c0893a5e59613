use Rattle.std.proofs.Common.{ap, ◌∙◌, arith}
use Rattle.std.specs.List.{range_with_len}
use Rattle.spin_step.specs.Schedules.{at_first}
use Rattle.spin_tests.specs.Dispenser.{dispenser_machine}
use Rattle.spin_tests.proofs.Drawn.{draws}
use Rattle.spin_tests.proofs.dispenser.numbers_are_drawn_in_order.Goals as goal

pub returns : goal.returns
returns g object n past =
    let (k, drawn, word) = draws object.cap (at_first (dispenser_machine object.cap) n) past in
    drawn ∙ ap (range_with_len 0) (omega (arith, word))
