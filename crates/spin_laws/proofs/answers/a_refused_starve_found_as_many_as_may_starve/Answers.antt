use Rattle.std.proofs.Common.{◌≡◌, ◌≤◌, ℕ, arith, not, refl}
use Rattle.spin_step.specs.Plain.{is_open_to, to_starve}
use Rattle.spin_fair.specs.Fair.{patience}
use Rattle.spin_step_more.specs.Starvers.{most_starvers}
use Rattle.spin_world.proofs.FairOwed.{fair_facts}
use Rattle.spin_laws.proofs.Moments.{found}
use Rattle.spin_laws.proofs.answers.a_refused_starve_found_as_many_as_may_starve.Goals as goal

pub returns : goal.returns
returns g c = λ opening.
    found (fair_facts opening most_starvers patience) (λ p s. not (is_open_to s p to_starve)) (λ h. refl) (λ p l h seen call closed. grind (arith, call.shape.room, closed))
