use Rattle.spin_rwlock.proofs.rwlock.RwLock+T+R.count_readers.Goals as goal

pub returns : goal.returns
returns g c = ((c.reader_count-count.result.1, rw c.pass.ensures.new at c.reader_count-count.ensures.made, c.into_seen.ensures), c.reader_count-count.ensures.limit)
