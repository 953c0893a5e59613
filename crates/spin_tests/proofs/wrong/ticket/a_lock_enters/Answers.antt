use Rattle.spin_step.specs.TicketKind.{ticket}
use Rattle.spin_world_core.proofs.Otherwise.{four_steps}
use Rattle.std.proofs.Common.{refl}
use Rattle.spin_tests.proofs.wrong.ticket.a_lock_enters.Goals as goal
use Rattle.spin_step.specs.Asks.{waits_to_enter}

pub returns : goal.returns
returns g c = λ value all. four_steps ticket 0 waits_to_enter all.1.1.1.1.0.undisturbed refl (search) (search) (search) (search) refl
