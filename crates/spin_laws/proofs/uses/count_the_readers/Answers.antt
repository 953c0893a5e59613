use Rattle.spin_laws.proofs.uses.count_the_readers.Goals as goal

pub returns : goal.returns
returns g c = let law = c.a_count_of_a_rwlock_was_so_at_a_moment.ensures.readers in law _ _ _ _ _ _ c.reader_count.ensures.made.0
