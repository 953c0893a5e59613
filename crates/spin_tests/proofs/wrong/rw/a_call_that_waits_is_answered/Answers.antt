use Rattle.spin_step_more.specs.RwKind.{rw}
use Rattle.spin_step.specs.Plain.{to_read}
use Rattle.spin_world_core.proofs.Otherwise.{too_many}
use Rattle.std.proofs.Common.{[], ◌∷◌, refl}
use Rattle.spin_tests.proofs.wrong.rw.a_call_that_waits_is_answered.Goals as goal
use Rattle.spin_step.specs.Asks.{spins_to_write, waits}

pub returns-clause-never : goal.returns-clause-never
returns-clause-never g c = λ value all. too_many rw 0 (waits to_read) 2 (_ ∷ []) _ _ all.1.1.0.undisturbed refl (search) refl

pub returns-clause-late : goal.returns-clause-late
returns-clause-late g c = λ value all. too_many rw 0 (waits to_read) 2 (_ ∷ []) _ _ all.1.1.0.undisturbed refl (search) refl

pub returns-clause-write : goal.returns-clause-write
returns-clause-write g c = λ value all. too_many rw 0 spins_to_write 1 [] _ _ all.1.0.undisturbed refl (search) refl

pub returns-clause-anew : goal.returns-clause-anew
returns-clause-anew g c = λ value all. too_many rw 0 (waits to_read) 2 (_ ∷ []) _ _ all.1.1.1.1.1.1.0.undisturbed refl (search) refl
