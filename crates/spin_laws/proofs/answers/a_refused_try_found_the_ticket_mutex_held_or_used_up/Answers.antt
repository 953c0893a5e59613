use Rattle.std.proofs.Common.{◌≡◌, ◌⊎◌, ℕ, arith, not, refl}
use Rattle.spin_step.specs.Plain.{is_open_to, to_take_and_enter}
use Rattle.spin_world.proofs.TicketOwed.{ticket_facts}
use Rattle.spin_laws.proofs.Moments.{found}
use Rattle.spin_laws.proofs.answers.a_refused_try_found_the_ticket_mutex_held_or_used_up.Goals as goal

pub returns : goal.returns
returns g c = λ key.
    found (ticket_facts key.value key.start) (λ p s. not (is_open_to s p to_take_and_enter)) (λ h. refl) (λ p l h seen _ closed. grind (arith, closed))
