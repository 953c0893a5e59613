use Rattle.spin_step.specs.declared.answer.Answer.TheVariants.{Granted}
use Rattle.spin_step.specs.declared.ticket_calls.TicketCall.TheVariants.{Lock}
use Rattle.spin_mutex.specs.Queue.{model}
use Rattle.spin_world.proofs.TicketOwed.{ticket_facts}
use Rattle.spin_laws.specs.Counts.{TakesTicketWithin}
use Rattle.spin_laws.proofs.Counts.{steps_of_call}
use Rattle.spin_laws.proofs.limits.a_lock_of_a_ticket_mutex_has_its_ticket_in_time.Goals as goal

pub returns : goal.returns
returns g c = λ key view now old new made.
    steps_of_call (ticket_facts key.value key.start) Lock Granted view now old new (TakesTicketWithin 2 (model key).lock_kind) (λ h p step older its within. within) made
