use Rattle.std.specs.Prelude.{Some}
use Rattle.std.proofs.lemmas.Bool.{true≢false}
use Rattle.spin_step.specs.declared.place.Hold.TheVariants as hold
use Rattle.spin_step.specs.declared.ticket_calls.TicketCall.TheVariants.{Lock}
use Rattle.spin_tests.proofs.wrong.ticket.a_holder_may_not_lock_again.Goals as goal

pub returns : goal.returns
returns g c = λ value steps. true≢false (steps.begins Lock (Some (hold.Ticket 0)))
