use Rattle.spin_step.specs.FlagKind.{flag}
use Rattle.spin_world_core.proofs.Otherwise.{too_many}
use Rattle.std.proofs.Common.{[], ◌∷◌, refl}
use Rattle.spin_tests.proofs.wrong.flag.a_lock_tries_again.Goals as goal
use Rattle.spin_step.specs.Asks.{waits_to_write}

pub returns : goal.returns
returns g c = λ value all. too_many flag 1 waits_to_write 2 (_ ∷ []) _ _ all.1.1.1.1.1.1.1.0.undisturbed refl (search) refl
