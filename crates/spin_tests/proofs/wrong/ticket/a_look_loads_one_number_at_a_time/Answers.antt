use Rattle.std.proofs.Common.{refl}
use Rattle.std.specs.Prelude.{None}
use Rattle.spin_step.specs.declared.ticket_calls.TicketCall.TheVariants.{IsLocked}
use Rattle.spin_step.specs.declared.ticket_calls.TicketPoint.TheVariants.{LookServing}
use Rattle.spin_tests.specs.WrongTicket.{wrong, looks_at_both}
use Rattle.spin_tests.proofs.TicketOperating.{both_matter}
use Rattle.spin_tests.proofs.wrong.ticket.a_look_loads_one_number_at_a_time.Goals as goal

pub returns : goal.returns
returns g c = λ value steps.
    let is = steps.operates IsLocked LookServing None in
    both_matter (λ w. ((wrong value looks_at_both).step w None IsLocked LookServing None).next) is.0 (λ u w same. is.2.next u w None refl refl same) (λ e. cc (e)) (λ e. cc (e))
