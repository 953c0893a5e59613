use Rattle.std.proofs.Common.{refl}
use Rattle.spin_rwlock.proofs.rwlock.RwLock+T+R.look_for_a_writer.Goals as goal

pub returns : goal.returns
returns g c = (c.count_writers-count.result.0, c.count_writers-count.ensures.0, refl)
