use Rattle.std.proofs.Common.{ap, sym}
use Rattle.std.proofs.lemmas.Bool.{false≢true}
use Rattle.spin_step.specs.Calls.{LockKind}
use Rattle.spin_tests.proofs.wrong.dispenser.a_dispenser_is_of_its_kind.Goals as goal
use Rattle.spin_step.specs.Plain.{reading, releases}

pub returns : goal.returns
returns g is = false≢true (sym (ap (λ (k : LockKind). k.plain_steps (releases 0 reading)) is.lock_kind))
