use Rattle.spin_rwlock.proofs.rwlock.reader.SharedGuard.lent.Goals as goal

pub returns-clause-lends : goal.returns-clause-lends
returns-clause-lends g c last call answer before calls = (last, calls)
