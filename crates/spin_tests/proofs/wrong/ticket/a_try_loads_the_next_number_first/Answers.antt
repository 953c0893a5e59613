use Rattle.std.proofs.Common.{None, refl, arith, inl, inr}
use Rattle.spin_step.specs.declared.ticket_calls.TicketCall.TheVariants.{TryLock}
use Rattle.spin_step.specs.declared.ticket_calls.TicketPoint.TheVariants.{TryLoadServing, TryTake}
use Rattle.spin_tests.proofs.wrong.ticket.a_try_loads_the_next_number_first.Goals as goal

pub returns-clause-hurries : goal.returns-clause-hurries
returns-clause-hurries g c = λ value law. absurd (cc ((law 0 TryLock (TryTake 0) None refl refl).1 refl (inl (refl, refl)) (omega arith)))

pub returns-clause-swaps : goal.returns-clause-swaps
returns-clause-swaps g c = λ value law. absurd (cc ((law 1 TryLock (TryLoadServing 0) None refl refl).1 refl (inr (inl (refl, refl))) (omega arith)))
