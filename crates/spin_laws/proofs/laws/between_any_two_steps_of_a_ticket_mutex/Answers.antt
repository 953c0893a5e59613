use Rattle.std.proofs.Common.{refl}
use Rattle.spin_mutex.specs.Queue.{seat_of, words_of}
use Rattle.spin_world.proofs.TicketOwed.{ticket_facts}
use Rattle.spin_laws.proofs.Between.{between_strong}
use Rattle.spin_laws.proofs.laws.between_any_two_steps_of_a_ticket_mutex.Goals as goal

pub returns : goal.returns
returns g c = λ key next trace parties is. between_strong seat_of words_of (ticket_facts key.value key.start) refl trace.entries (next, trace.word) parties is.2
