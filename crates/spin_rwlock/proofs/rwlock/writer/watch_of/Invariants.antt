use Rattle.spin_rwlock.proofs.rwlock.writer.watch_of.Given as goal

abbrev pub ghost-under : goal.ghost-under
ghost-under g a = g.name
