use Rattle.spin_laws.proofs.uses.look_at_a_rwlock.Goals as goal

pub returns : goal.returns
returns g c = let law = c.a_look_at_a_rwlock_was_so_at_a_moment.ensures in law _ _ _ _ _ _ c.is_locked.ensures.0
