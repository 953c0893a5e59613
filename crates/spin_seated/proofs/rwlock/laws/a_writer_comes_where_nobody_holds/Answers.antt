use Rattle.spin_seated.specs.Rw.{rw, TryWrite, Truth}
use Rattle.spin_seated.proofs.Histories.{answered}
use Rattle.spin_seated.proofs.rwlock.laws.a_writer_comes_where_nobody_holds.Goals as goal

pub returns : goal.returns
returns c = λ k before rest p granted legal. cc (answered rw k before rest p TryWrite (Truth granted) legal).1
