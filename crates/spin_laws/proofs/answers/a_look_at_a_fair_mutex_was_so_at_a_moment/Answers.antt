use Rattle.std.proofs.Common.{refl}
use Rattle.spin_step.specs.Parties.{is_held}
use Rattle.spin_fair.specs.Fair.{patience}
use Rattle.spin_step_more.specs.Starvers.{most_starvers}
use Rattle.spin_world.proofs.FairOwed.{fair_facts}
use Rattle.spin_laws.proofs.Moments.{found, same_is}
use Rattle.spin_step.specs.Asks.{same}
use Rattle.spin_laws.proofs.answers.a_look_at_a_fair_mutex_was_so_at_a_moment.Goals as goal

pub returns : goal.returns
returns g c = λ opening held.
    found (fair_facts opening most_starvers patience) (λ p s. same held (is_held s)) (λ h. refl) (λ p l h seen call is. same_is (is_held seen.plain) held is)
