use Rattle.std.proofs.Common.{◌≡◌, ◌&&◌, arith, refl}
use Rattle.spin_step.specs.Plain.{is_empty}
use Rattle.spin_step.specs.Parties.{is_held}
use Rattle.spin_step.specs.Calls.{is_starved}
use Rattle.spin_fair.specs.Fair.{patience}
use Rattle.spin_step_more.specs.Starvers.{most_starvers}
use Rattle.spin_world.proofs.FairOwed.{fair_facts}
use Rattle.spin_laws.proofs.Moments.{found}
use Rattle.spin_laws.proofs.answers.the_reason_for_a_refusal_was_so_at_a_moment.Goals as goal

pub returns-clause-locked : goal.returns-clause-locked
returns-clause-locked g c = λ opening.
    found (fair_facts opening most_starvers patience) (λ p s. is_held s && is_empty s.starvers) (λ h. refl) (λ p l h seen _ is. grind (arith, is))

pub returns-clause-starved : goal.returns-clause-starved
returns-clause-starved g c = λ opening.
    found (fair_facts opening most_starvers patience) (λ p s. is_starved s) (λ h. refl) (λ p l h seen call is. is)
