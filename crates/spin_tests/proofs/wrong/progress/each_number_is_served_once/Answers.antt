use Rattle.std.proofs.Common.{None, refl, arith}
use Rattle.std.proofs.lemmas.Bool.{false≢true}
use Rattle.spin_step.specs.declared.ticket_calls.TicketCall.TheVariants.{Lock}
use Rattle.spin_step.specs.declared.ticket_calls.TicketPoint.TheVariants.{Await}
use Rattle.spin_step.specs.Schedules.{after, at_first}
use Rattle.spin_laws.proofs.Around.{rounds_are}
use Rattle.spin_tests.specs.WrongProgress.{serves_twice, one_before_it, four_turns}
use Rattle.spin_tests.proofs.wrong.progress.each_number_is_served_once.Goals as goal

pub returns : goal.returns
returns g c = λ value law. false≢true (law 1 0 Lock (Await 1) None refl refl (rounds_are (serves_twice value) (after (serves_twice value) (at_first (serves_twice value) 2) one_before_it) four_turns refl) (omega arith))
