use Rattle.spin_rwlock.proofs.rwlock.RwLock+T+R.count_writers.Goals as goal

pub returns : goal.returns
returns g c = ((c.writer_count-count.result.1, rw c.pass.ensures.new at c.writer_count-count.ensures.made, c.into_seen.ensures), c.writer_count-count.ensures.limit)
