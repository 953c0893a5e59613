use Rattle.spin_rwlock.proofs.rwlock.writer.RwLockWriteGuard+T+R.leave.Given as goal

abbrev pub ghost-watch_of : goal.ghost-watch_of
ghost-watch_of g a = a.writer.now.key.name
