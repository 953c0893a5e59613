use Rattle.spin_seated.specs.Rw.{rw, TryRead, Truth}
use Rattle.spin_seated.proofs.Histories.{answered}
use Rattle.spin_seated.proofs.RwSteps.{standing}
use Rattle.spin_seated.proofs.rwlock.laws.a_reader_comes_where_nobody_keeps_it_out.Goals as goal

pub returns : goal.returns
returns c = λ k before rest p granted legal. let two = answered rw k before rest p TryRead (Truth granted) legal in cc (two.1, (standing k before two.0).cap)
