use Rattle.std.proofs.Common.{arith, not, refl}
use Rattle.spin_step.specs.Plain.{is_open_to, to_write}
use Rattle.spin_world.proofs.FlagOwed.{flag_facts}
use Rattle.spin_laws.proofs.Moments.{found}
use Rattle.spin_laws.proofs.answers.a_refused_try_found_the_spin_mutex_held.Goals as goal

pub returns : goal.returns
returns g c = λ opening. found (flag_facts opening) (λ p s. not (is_open_to s p to_write)) (λ h. refl) (λ p l h seen call closed. grind (arith, closed))
