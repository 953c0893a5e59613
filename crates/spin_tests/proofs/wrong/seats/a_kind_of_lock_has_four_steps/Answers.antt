use Rattle.std.proofs.Common.{refl}
use Rattle.spin_world_core.proofs.Otherwise.{four_steps}
use Rattle.spin_tests.proofs.wrong.seats.a_kind_of_lock_has_four_steps.Goals as goal
use Rattle.spin_seats.specs.Kind.{seats}
use Rattle.spin_tests.specs.WrongSeats.{slow_enter}

pub returns : goal.returns
returns g all = four_steps seats 0 slow_enter all.1.1.1.1.0.undisturbed refl (search) (search) (search) (search) refl
