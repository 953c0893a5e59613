use Rattle.std.proofs.Common.{◌≡◌, ◌⊎◌, ℕ, arith, not, refl}
use Rattle.spin_step.specs.Plain.{is_open_to, to_lock_unregistered}
use Rattle.spin_fair.specs.Fair.{patience}
use Rattle.spin_step_more.specs.Starvers.{most_starvers}
use Rattle.spin_world.proofs.FairOwed.{fair_facts}
use Rattle.spin_laws.proofs.Moments.{found}
use Rattle.spin_laws.proofs.answers.a_refused_try_found_the_fair_mutex_held_or_starved.Goals as goal

pub returns : goal.returns
returns g c = λ opening.
    found (fair_facts opening most_starvers patience) (λ p s. not (is_open_to s p to_lock_unregistered)) (λ h. refl) (λ p l h seen _ closed. grind (arith, closed))
