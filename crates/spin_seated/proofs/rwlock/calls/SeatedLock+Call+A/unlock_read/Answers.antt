use Rattle.spin_seated.proofs.RwDebts.{reader_goes_owed}
use Rattle.spin_seated.proofs.rwlock.calls.SeatedLock+Call+A.unlock_read.Goals as goal

pub subtract-requires-clause-owes : goal.subtract-requires-clause-owes
subtract-requires-clause-owes g c = reader_goes_owed c.pass.view_is c.requires.holder
