use Rattle.std.proofs.Common.{[], ◌∷◌, refl}
use Rattle.spin_step.specs.Plain.{to_read}
use Rattle.spin_seats.specs.Kind.{seats}
use Rattle.spin_world_core.proofs.Otherwise.{too_many}
use Rattle.spin_tests.proofs.wrong.seats.an_enter_is_answered.Goals as goal
use Rattle.spin_step.specs.Asks.{waits}

pub returns-clause-twice : goal.returns-clause-twice
returns-clause-twice g all = too_many seats 0 (waits to_read) 2 (_ ∷ []) _ _ all.1.1.0.undisturbed refl (search) refl

pub returns-clause-anew : goal.returns-clause-anew
returns-clause-anew g all = too_many seats 0 (waits to_read) 2 (_ ∷ []) _ _ all.1.1.1.1.1.1.0.undisturbed refl (search) refl
