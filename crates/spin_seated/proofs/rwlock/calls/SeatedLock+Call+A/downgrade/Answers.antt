use Rattle.spin_seated.proofs.RwDebts.{reads_on_owed}
use Rattle.spin_seated.proofs.rwlock.calls.SeatedLock+Call+A.downgrade.Goals as goal

pub add-requires-clause-owes : goal.add-requires-clause-owes
add-requires-clause-owes g c = reads_on_owed c.pass.view_is c.requires.holder
