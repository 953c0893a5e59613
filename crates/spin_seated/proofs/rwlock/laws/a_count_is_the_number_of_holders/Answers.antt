use Rattle.spin_seated.specs.Rw.{rw, ReaderCount, WriterCount, Value}
use Rattle.spin_seated.proofs.Histories.{answered}
use Rattle.spin_seated.proofs.rwlock.laws.a_count_is_the_number_of_holders.Goals as goal

pub returns : goal.returns
returns c = λ k before rest p n. ((λ legal. cc (answered rw k before rest p ReaderCount (Value n) legal).1), (λ legal. cc (answered rw k before rest p WriterCount (Value n) legal).1))
