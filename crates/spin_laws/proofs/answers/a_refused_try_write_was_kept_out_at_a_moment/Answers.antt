use Rattle.std.proofs.Common.{arith, not, refl}
use Rattle.spin_step.specs.Plain.{is_open_to, to_write}
use Rattle.spin_step_more.specs.Readers.{reader_limit}
use Rattle.spin_world.proofs.RwOwed.{rw_facts}
use Rattle.spin_laws.proofs.Moments.{found}
use Rattle.spin_laws.proofs.answers.a_refused_try_write_was_kept_out_at_a_moment.Goals as goal

pub returns : goal.returns
returns g c = λ opening. found (rw_facts opening reader_limit) (λ p s. not (is_open_to s p to_write)) (λ h. refl) (λ p l h seen call closed. grind (arith, closed))
