use Rattle.std.proofs.Common.{ap, ◌∙◌}
use Rattle.spin_step.specs.Plain.{writing}
use Rattle.spin_seated.specs.Histories.{holds}
use Rattle.spin_seated.specs.Mutex.{mutex}
use Rattle.spin_seated.proofs.Debts.{frees_owed}
use Rattle.spin_seated.proofs.mutex.calls.SeatedLock+Call+A.unlock.Goals as goal

pub store-requires-clause-owes : goal.store-requires-clause-owes
store-requires-clause-owes g c =
    frees_owed c.pass.inside.place.known c.flag_number-free.result (λ u p set is_open. c.flag_number-free.ensures ∙ c.unlock.ensures.plain u p writing set is_open) (ap (λ v. holds mutex v.known) c.pass.view_is ∙ c.requires.holder)
