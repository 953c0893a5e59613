use Rattle.std.proofs.Common.{arith}
use Rattle.spin_seated.proofs.Keeping.{joins}
use Rattle.spin_seated.proofs.Passes.{its_table, its_view}
use Rattle.spin_seated.proofs.lock.SeatedLock.close_both.Goals as goal

pub join_seat-requires : goal.join_seat-requires
join_seat-requires g c = grind (arith, its_table, its_view, joins)
