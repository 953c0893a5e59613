use Rattle.std.proofs.Common.{refl}
use Rattle.spin_step.specs.Parties.{is_held}
use Rattle.spin_step_more.specs.Readers.{reader_limit}
use Rattle.spin_world.proofs.RwOwed.{rw_facts}
use Rattle.spin_laws.proofs.Moments.{found, same_is}
use Rattle.spin_step.specs.Asks.{same}
use Rattle.spin_laws.proofs.answers.a_look_at_a_rwlock_was_so_at_a_moment.Goals as goal

pub returns : goal.returns
returns g c = λ opening held.
    found (rw_facts opening reader_limit) (λ p s. same held (is_held s)) (λ h. refl) (λ p l h seen call is. same_is (is_held seen.plain) held is)
