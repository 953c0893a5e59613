use Rattle.spin_rwlock.proofs.rwlock.reader.SharedGuard.release.Goals as goal

pub returns-clause-made : goal.returns-clause-made
returns-clause-made g c = rw c.into_session.ensures.same at c.make.ensures.calls
